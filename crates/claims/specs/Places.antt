-- Document 01's words for a place in the cache or the queue, "the first kind present", "the first entry there or later that ..", of the scans that
-- compute it. Assumes nothing.
use Rattle.std.specs.Prelude.{ℕ, suc, ◌≤◌, ◌≡◌, true, false, List, [], ◌∷◌, ◌++◌, length, get_or, set}
use Rattle.table.specs.First.{FirstAt, NoneFrom, FirstFromLaw}
use Rattle.table.specs.Table.{swap_remove}
use Rattle.time.specs.declared.Instant.{Instant}
use Rattle.neighbor.specs.declared.State.TheVariants.{Incomplete}
use Rattle.neighbor.specs.declared.Entry.{Entry}
use Rattle.neighbor.specs.NeighborRules.{Table}
use Rattle.neighbor.specs.CacheCalls.{blank}
use Rattle.neighbor.specs.Eviction.{EvictionLaw, FindLaw}
use Rattle.neighbor.specs.Scans.{FirstOfLaw, LookupLaw, GetLaw, RemoveLaw}
use Rattle.pending.specs.QueueScans.{ReleaseLaw, OrphanLaw}
use Rattle.sweep.specs.declared.ProbeEvent.{ProbeEvent}
use Rattle.sweep.specs.declared.ProbeEvent.TheVariants.{Retransmit, Failed}
use Rattle.sweep.specs.SweepRules.{due, spent, probed, nothing, happens, probe, expire_all, sweep_table, looks_at, sweep_looks}

-- "Incomplete, of the interface and due"
pub record DueNow (i : ℕ) (now : Instant) (e : Entry) : Type 0 where
  pub of_iface : i ≡ e.iface
  pub probes : ℕ
  pub time : Instant
  pub incomplete : e.state ≡ Incomplete probes time
  pub come : time.0 ≤ now.0

-- "With 3 probes or more"
pub record NoneLeft (e : Entry) : Type 0 where
  pub probes : ℕ
  pub time : Instant
  pub incomplete : e.state ≡ Incomplete probes time
  pub three : 3 ≤ probes

-- Probe events from a place, one call after the other, until there is none: they are vs, and leave the table u; the calls look at the entries es, and
-- are so many
pub data UntilNone (i : ℕ) (now : Instant) : Table → ℕ → List ProbeEvent → Table → Table → ℕ → Type 0 where
  over : {t : Table} {place : ℕ} → probe i now t place ≡ nothing → UntilNone i now t place [] t (looks_at i now t place) 1
  more : {t t' u es : Table} {place place' calls : ℕ} {v : ProbeEvent} {vs : List ProbeEvent} → probe i now t place ≡ happens v t' place'
      → UntilNone i now t' place' vs u es calls → UntilNone i now t place (v ∷ vs) u (looks_at i now t place ++ es) (suc calls)

pub record Places : Type 1 where
  -- "A full table evicts the first kind present: Stale, Reachable by earliest expiry, Incomplete by earliest due, Started; ties take the lowest index."
  pub evicted : EvictionLaw
  -- a key's entry is the first that has the key
  pub key : FindLaw
  -- "the first entry there or later that .."
  pub first : FirstFromLaw
  pub first_of : FirstOfLaw
  -- "Lookup: Reachable is Found, even past its time; Started and Incomplete are Pending; the rest NotFound."
  pub lookup : LookupLaw
  -- "removing or listing an absent key answers Nothing"
  pub get : GetLaw
  -- "Remove moves the last entry in"
  pub remove : RemoveLaw
  -- "Release takes the oldest of its key."
  pub release : ReleaseLaw
  -- "Purging orphans drops packets whose entry is absent or Stale"
  pub orphans : OrphanLaw
  -- ".. is Incomplete, of the interface and due": the test says so, and only then
  pub due_means : (i : ℕ) (now : Instant) (e : Entry) → (due i now e ≡ true → DueNow i now e) × (DueNow i now e → due i now e ≡ true)
  pub spent_means : (e : Entry) → (spent e ≡ true → NoneLeft e) × (NoneLeft e → spent e ≡ true)
  -- "With 3 probes or more it fails: the last entry moves into its index, and the place is that index."
  pub fails : (i : ℕ) (now : Instant) (t : Table) (place j : ℕ) → FirstAt blank (due i now) place t j → spent (get_or t j blank) ≡ true
      → probe i now t place ≡ happens (Failed (get_or t j blank).addr) (swap_remove j t) j
  -- "Otherwise one probe more, due now + 1,000, and the place is one past it."
  pub sends : (i : ℕ) (now : Instant) (t : Table) (place j : ℕ) → FirstAt blank (due i now) place t j → spent (get_or t j blank) ≡ false
      → probe i now t place ≡ happens (Retransmit (get_or t j blank).addr) (set t j (probed now (get_or t j blank))) (suc j)
  -- and there is none
  pub none : (i : ℕ) (now : Instant) (t : Table) (place : ℕ) → NoneFrom blank (due i now) place t (length t) → probe i now t place ≡ nothing
  -- "A sweep of an interface is one expiry pass, then its probe events from place 0 until none"
  pub until_none : (i : ℕ) (now : Instant) (t : Table)
      → UntilNone i now (expire_all now t) 0 (sweep_table i now t).events (sweep_table i now t).table (sweep_looks i now t) (suc (length (sweep_table i now t).events))
