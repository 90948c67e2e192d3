-- Document 01, "Poll": router discovery, and turning SLAAC on. Assumes nothing.
use Rattle.std.specs.Prelude.{ℕ, ◌-◌, ◌≡◌, Bool, true, false, cond, replicate, eqb, Result, Ok, Err}
use Rattle.time.specs.declared.Instant.{Instant}
use Rattle.time.specs.declared.Clock.{Clock}
use Rattle.time.specs.declared.Answer.{Answer}
use Rattle.time.specs.ClockRules.{asked_of, scheduled_of}
use Rattle.time.specs.TimeRules.{add_of}
use Rattle.wire.specs.declared.error.Refusal.{Refusal}
use Rattle.wire.specs.Refusals.{check_number, outcome_number, decided, iface_check}
use Rattle.slaac.specs.declared.Phase.{Phase}
use Rattle.slaac.specs.declared.Phase.TheVariants.{Start, Discovering, Maintaining}
use Rattle.slaac.specs.declared.Discovery.{Discovery}
use Rattle.slaac.specs.declared.Slaac.{Slaac}
use Rattle.slaac.specs.declared.Solicitation.{Solicitation}
use Rattle.slaac.specs.declared.Changed.{Changed}
use Rattle.slaac.specs.Fields.{with_discovery}
use Rattle.slaac.specs.LearnedRules.{no_prefix, no_router}

-- "phase Start, or Discovering with the retry time expired"
abbrev pub due_phase : Phase → Clock → Answer
due_phase Start k = record { expired = true; clock = k }
due_phase (Discovering t) k = asked_of k t
due_phase Maintaining k = record { expired = false; clock = k }

-- "solicitations left, and phase Start, or Discovering with the retry time expired (asked of the clock last)"
unfoldable pub due : Discovery → Clock → Answer
due d k = cond (eqb d.num_solicitations 0) (record { expired = false; clock = k }) (due_phase d.phase k)

-- "retry 4,000 ms later"
abbrev pub retry_at : Clock → Instant
retry_at k = add_of k.now (record { 0 = 4000 })

-- "Then: phase Discovering, one fewer left, retry 4,000 ms later, scheduled only if some are left."
unfoldable pub sent : Discovery → Clock → Solicitation
sent d k =
    record {
      due = true;
      discovery = record { phase = Discovering (retry_at k); num_solicitations = d.num_solicitations - 1 };
      clock = cond (eqb (d.num_solicitations - 1) 0) k (scheduled_of k (retry_at k));
    }

-- the turn of an interface whose link is up and that has a source
unfoldable pub solicitation : Discovery → Clock → Solicitation
solicitation d k =
    cond (due d k).expired (sent d (due d k).clock) (record { due = false; discovery = d; clock = (due d k).clock })

-- "phase Start and 3 left"
abbrev pub begun : Discovery
begun = record { phase = Start; num_solicitations = 3 }

-- nothing learned
abbrev pub fresh : Bool → Slaac
fresh on =
    record {
      on = on;
      prefixes = replicate 4 no_prefix;
      prefix_count = 0;
      routers = replicate 2 no_router;
      router_count = 0;
      discovery = begun;
      sync_required = false;
      state = record { routers_seen = false; managed = false; other_config = false };
    }

-- "Restart sets phase Start and 3 left, and keeps what was learned (with SLAAC off it does and prints nothing)"
abbrev pub restarted : Slaac → Slaac
restarted s = cond s.on (with_discovery s begun) s

-- "turning SLAAC on does so with nothing learned, or nothing if on"
abbrev pub turned_on_is : Slaac → Slaac
turned_on_is s = cond s.on s (fresh true)

-- number 7 belongs to both; "A refusal returns its number and changes nothing."
abbrev pub turned_to : Slaac → Changed
turned_to s = record { slaac = s; outcome = Ok tt }

abbrev pub unturned : Slaac → Refusal → Changed
unturned s why = record { slaac = s; outcome = Err why }

abbrev pub turn_by : Result (Unit {0}) Refusal → Slaac → Slaac → Changed
turn_by check s s' = decided check (unturned s) (turned_to s')

pub record TurnedTo (check : Result (Unit {0}) Refusal) (s s' : Slaac) (r : Changed) : Type 0 where
  pub is : r ≡ turn_by check s s'
  pub number : outcome_number r.outcome ≡ check_number check

abbrev pub RestartedTo : Slaac → ℕ → Changed → Type 0
RestartedTo s iface r = TurnedTo (iface_check iface) s (restarted s) r

abbrev pub TurnedOnTo : Slaac → ℕ → Changed → Type 0
TurnedOnTo s iface r = TurnedTo (iface_check iface) s (turned_on_is s) r
