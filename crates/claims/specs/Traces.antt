-- Demand 3's premises can be met: runs in which a key is kept, fails, is filled, is evicted, each computed. Assumes nothing.
use Rattle.std.specs.Prelude.{ℕ, zero, suc, ◌≡◌, true, List, [], ◌∷◌, length}
use Rattle.time.specs.declared.Instant.{Instant}
use Rattle.wire.specs.declared.ethernet.HardwareAddress.{HardwareAddress}
use Rattle.neighbor.specs.NeighborRules.{Key, entries_of}
use Rattle.claims.specs.Calls.{Call, start, fill, insert, remove, clear, sweep, advertise, turn_off, address, answers, table_after}
use Rattle.claims.specs.Watch.{retransmission, failure, filled, gone, watch_of, reports_all, evicts, Kept}
use Rattle.claims.specs.Demand3.{joined}

abbrev pub ms : ℕ → Instant
ms t = record { 0 = t }

-- fe80::n on interface 0, and the hardware address 02:00:00:00:00:01
abbrev pub neighbour : ℕ → Key
neighbour n = record { iface = 0; addr = record { hi = 0xfe80_0000_0000_0000; lo = n } }

abbrev pub hardware : HardwareAddress
hardware = record { hi = 0x0200; lo = 1 }

-- started, with a fill of another address and a sweep of another interface between its own sweeps
abbrev pub unanswered : List Call
unanswered =
    start (neighbour 1)
    ∷ sweep 2 (ms 0)
    ∷ fill (neighbour 2) hardware (ms 10)
    ∷ sweep 0 (ms 999)
    ∷ sweep 0 (ms 1000)
    ∷ sweep 1 (ms 2500)
    ∷ sweep 0 (ms 2500)
    ∷ sweep 0 (ms 9000)
    ∷ []

-- answered after the first sweep: by a fill, by an insert, by an advertisement
abbrev pub answered_by : Call → List Call
answered_by c = start (neighbour 1) ∷ sweep 0 (ms 0) ∷ c ∷ sweep 0 (ms 5000) ∷ []

-- n starts, of neighbours n to 1
abbrev pub starts_of : ℕ → List Call
starts_of zero = []
starts_of (suc n) = start (neighbour (suc n)) ∷ starts_of n

pub record Traces : Type 0 where
  -- kept, reported twice and then failed
  pub kept : Kept (neighbour 1) unanswered []
  pub fails : joined (reports_all (neighbour 1) (answers unanswered [])) ≡ retransmission ∷ retransmission ∷ failure ∷ []
  pub freed : entries_of (neighbour 1) (table_after unanswered []) ≡ []
  -- filled
  pub by_fill : watch_of (entries_of (neighbour 1) (table_after (answered_by (fill (neighbour 1) hardware (ms 20))) [])) ≡ filled
  pub by_insert : watch_of (entries_of (neighbour 1) (table_after (answered_by (insert (neighbour 1) hardware (ms 70))) [])) ≡ filled
  pub by_advertisement : watch_of (entries_of (neighbour 1) (table_after (answered_by (advertise (neighbour 1) (ms 20) (address hardware))) [])) ≡ filled
  -- removed, cleared, and cleared by turning SLAAC off
  pub by_remove : watch_of (entries_of (neighbour 1) (table_after (answered_by (remove (neighbour 1))) [])) ≡ gone
  pub by_clear : watch_of (entries_of (neighbour 1) (table_after (answered_by (clear 0)) [])) ≡ gone
  pub by_off : watch_of (entries_of (neighbour 1) (table_after (answered_by (turn_off 0 true)) [])) ≡ gone
  -- sixteen starts fill the table, and one more evicts the first of them
  pub full : length (table_after (starts_of 16) []) ≡ 16
  pub evicted : evicts (neighbour 16) (start (neighbour 17)) (table_after (starts_of 16) []) ≡ true
