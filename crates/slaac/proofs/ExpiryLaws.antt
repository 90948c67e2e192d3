-- Laws of the times of what was learned.
use Prim.Native.Nat.{ℕ, min}
use Rattle.std.specs.List.{fold}
use lib.ListN.{length, take}
use mathlib.Core.Bool.{Bool, true, false, not}
use mathlib.Core.List.{List, [], ◌∷◌}
use mathlib.Core.Path.{◌≡◌, refl, ap, ◌∙◌}
use Rattle.slaac.specs.ExpiryRules.{ask_prefix, ask_router, sync_due, prefix_gone, router_gone, leave_expired}
use Rattle.slaac.specs.Fields.{with_prefixes, with_routers, with_sync}
use Rattle.slaac.specs.LearnedRules.{prefixes_of, routers_of, having_prefixes, having_routers}
use Rattle.slaac.specs.declared.Prefix.{Prefix}
use Rattle.slaac.specs.declared.Router.{Router}
use Rattle.slaac.specs.declared.Slaac.{Slaac}
use Rattle.table.proofs.Laws.{take_count, counted}
use Rattle.table.specs.Table.{filled, kept, fold_over}
use Rattle.time.specs.declared.Answer.{Answer}
use Rattle.time.specs.declared.Clock.{Clock}
use Rattle.time.specs.declared.Instant.{Instant}

-- the entries, where the count was cut first
cut : {A : Type 0} (s : List A) (n size k : ℕ) → length s ≡ size → k ≡ min n size → take k s ≡ take n s
cut s n size k full e = take_count s n k (counted s n size k full e)

-- the library's fold
folded_over : {A B : Type 0} (step : B → A → B) (b : B) (xs : List A) → fold step b xs ≡ fold_over step b xs
folded_over step b [] = refl
folded_over step b (x ∷ xs) = folded_over step (step b x) xs

module _ (s : Slaac) (k j : ℕ) (full : length s.prefixes ≡ 4) (full' : length s.routers ≡ 2) (e : k ≡ min s.prefix_count 4) (f : j ≡ min s.router_count 2) where
  ps : take k s.prefixes ≡ prefixes_of s
  ps = cut s.prefixes s.prefix_count 4 k full e

  rs : take j s.routers ≡ routers_of s
  rs = cut s.routers s.router_count 2 j full' f

  pub all_asked : (clock : Clock) (a b : Answer) → a ≡ fold ask_prefix (record { expired = s.sync_required; clock = clock }) (take k s.prefixes)
      → b ≡ fold ask_router a (take j s.routers) → b ≡ sync_due s clock
  unfolding sync_due
  all_asked clock a b g h =
      let none : Answer = record { expired = s.sync_required; clock = clock } in
      let asked : a ≡ fold_over ask_prefix none (prefixes_of s) =
      g ∙ (folded_over ask_prefix none (take k s.prefixes) ∙ ap (fold_over ask_prefix none) ps) in
      h ∙ (folded_over ask_router a (take j s.routers) ∙ (λ i. fold_over ask_router (asked i) (rs i)))

  pub all_left : (now : Instant) (ts : List Prefix) (w : ℕ) (us : List Router) (x : ℕ)
      → (ts ≡ filled s.prefixes (kept (prefix_gone now) (take k s.prefixes))) × (w ≡ length (kept (prefix_gone now) (take k s.prefixes)))
      → (us ≡ filled s.routers (kept (router_gone now) (take j s.routers))) × (x ≡ length (kept (router_gone now) (take j s.routers)))
      → with_sync (with_routers (with_prefixes s ts w) us x) false ≡ leave_expired now s
  unfolding leave_expired
  all_left now ts w us x p q =
      (λ i. with_sync (with_routers (with_prefixes s (p.0 i) (p.1 i)) (q.0 i) (q.1 i)) false)
      ∙ (λ i. with_sync (having_routers (having_prefixes s (kept (prefix_gone now) (ps i))) (kept (router_gone now) (rs i))) false)

-- what stays is not gone
pub stays : (a b : Bool) → a ≡ b → a ≡ not (not b)
stays a true e = e
stays a false e = e
