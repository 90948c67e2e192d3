-- Document 01, "Refusal numbers": "times in tables and a clock's deadline are never refused". A call's number goes by its arguments: with the
-- same ones it is the same for every cache. Assumes nothing.
use Rattle.wire.specs.declared.error.Refusal.{Refusal}
use Rattle.neighbor.specs.declared.Neighbor.{Neighbor}
use Rattle.std.specs.Prelude.{ℕ, ◌≡◌, Result, Option}
use Rattle.time.specs.declared.Instant.{Instant}
use Rattle.wire.specs.declared.ethernet.HardwareAddress.{HardwareAddress}
use Rattle.wire.specs.declared.ipv6.Ipv6Addr.{Ipv6Addr}
use Rattle.wire.specs.Refusals.{outcome_number}
use Rattle.neighbor.specs.declared.Answer.{Answer}
use Rattle.neighbor.specs.declared.Changed.{Changed}
use Rattle.neighbor.specs.declared.NeighborCache.{NeighborCache}
use Rattle.neighbor.specs.declared.Removed.{Removed}
use Rattle.neighbor.specs.Answers.{answer_number, got_number_is}
use Rattle.neighbor.specs.CacheCalls.{LookedUp, StartTo, InsertTo, FillTo, ClearTo, GotBy, RemovedTo}

pub record NeverRefused (c c' : NeighborCache) (iface : ℕ) (addr : Ipv6Addr) : Type 0 where
  pub lookup : (r r' : Result Answer Refusal) → LookedUp c iface addr r → LookedUp c' iface addr r' → answer_number r ≡ answer_number r'
  pub start_resolution : (r r' : Changed) → StartTo c iface addr r → StartTo c' iface addr r' → outcome_number r.outcome ≡ outcome_number r'.outcome
  pub fill : (hw : HardwareAddress) (now : Instant) (r r' : Changed) → FillTo c iface addr hw now r → FillTo c' iface addr hw now r'
      → outcome_number r.outcome ≡ outcome_number r'.outcome
  pub insert : (hw : HardwareAddress) (expires : Instant) (r r' : Changed) → InsertTo c iface addr hw expires r → InsertTo c' iface addr hw expires r'
      → outcome_number r.outcome ≡ outcome_number r'.outcome
  pub get : (r r' : Result (Option Neighbor) Refusal) → GotBy c iface addr r → GotBy c' iface addr r' → got_number_is r ≡ got_number_is r'
  pub remove : (r r' : Removed) → RemovedTo c iface addr r → RemovedTo c' iface addr r' → got_number_is r.taken ≡ got_number_is r'.taken
  pub clear_iface : (r r' : Changed) → ClearTo c iface r → ClearTo c' iface r' → outcome_number r.outcome ≡ outcome_number r'.outcome
