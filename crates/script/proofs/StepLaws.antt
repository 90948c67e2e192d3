-- Laws of what a line does. Assumes nothing.
use Prim.Native.Nat.{ℕ, ◌≤◌}
use lib.ListN.{length}
use mathlib.Core.List.{List}
use mathlib.Core.Path.{◌≡◌, refl, sym, ap, ◌∙◌}
use native.Mathlib.Omega.{arith}
use Rattle.iface.specs.AddressRules.{addrs_of, addr_check, add_addr_by, AddedTo}
use Rattle.iface.specs.declared.addr.Added.{Added}
use Rattle.iface.specs.declared.addr.IfaceAddrs.{IfaceAddrs}
use Rattle.lines.specs.EventLines.{parsed_bytes}
use Rattle.script.proofs.CardLaws.{heard}
use Rattle.script.specs.ReadingRules.{said_in, next_of, rank, ReadySaid, SaidTo}
use Rattle.script.specs.StepRules.{Went, quietly, with_addrs, added_by, added, added_card, apply_of, room, step_of, Applied, Stepped, message_in, StepTo}
use Rattle.script.specs.declared.card.After.{After}
use Rattle.script.specs.declared.card.Card.{Card}
use Rattle.script.specs.declared.reading.Said.TheVariants.{Mac, Next, Static, Event}
use Rattle.script.specs.declared.reading.Said.{Said}
use Rattle.script.specs.declared.reading.Want.TheVariants.{Failed}
use Rattle.script.specs.declared.reading.Want.{Want}
use Rattle.std.specs.Prelude.{Option, Some, None, Result, Ok, Err}
use Rattle.text.proofs.PlaceLaws.{put_as, put_none}
use Rattle.text.specs.Fields.{fields}
use Rattle.text.specs.declared.print.Text.{Text}
use Rattle.wire.specs.declared.error.Refusal.{Refusal}
use Rattle.wire.specs.declared.ipv6.Ipv6Cidr.{Ipv6Cidr}

-- ---- an address of the header

quietly_to : {g : Went} {w : Want} {x : Card} → g ≡ quietly w x → Applied g (record { want = w; card = x })
quietly_to e =
    record {
      want = sym (ap (λ (y : Went). y.want) e);
      card = sym (ap (λ (y : Went). y.card) e);
      text = ap (λ (y : Went). y.text) e;
    }

module _ (x : Card) (c : Ipv6Cidr) (w : Want) (r : Added) (v : AddedTo x.addrs 0 c r) where
  is_added : added_card x c w ≡ added x w r
  unfolding added_card
  is_added = ap (added x w) (sym v.is)

  pub address_refused : (why : Refusal) → r.outcome ≡ Err why → Applied (added_card x c w) (record { want = Failed; card = x })
  address_refused why q = quietly_to (is_added ∙ ap (added_by x w r.addrs) q)

  pub address_done : r.outcome ≡ Ok tt → Applied (added_card x c w) (record { want = w; card = with_addrs x r.addrs })
  address_done q = quietly_to (is_added ∙ ap (added_by x w r.addrs) q)

-- ---- what was said

module _ (x : Card) (s : Option Said) (message : List ℕ) where
  pub still : (u : Option Said) (w : Want) (y : Card) {out : Text} → s ≡ u → apply_of x u (message_in u message) ≡ quietly w y
      → Stepped (apply_of x s (message_in s message)) out (record { want = w; card = y }) out
  still u w y {out} p g =
      rw (p, g) (record { want = refl; card = refl; put = put_none out.buf.now out.at; short = omega arith })

  pub of_address : (c : Ipv6Cidr) (w : Want) (r : After) {out : Text} → s ≡ Some (Static c w) → Applied (added_card x c w) r
      → Stepped (apply_of x s (message_in s message)) out r out
  of_address c w r {out} p v =
      rw p (record { want = v.want; card = v.card; put = put_as (sym v.text) (put_none out.buf.now out.at); short = rw v.text (omega arith) })

-- ---- a line

said_heard : (x : Card) (s : Option Said) (message bs : List ℕ) → ReadySaid message bs s → apply_of x s (message_in s message) ≡ apply_of x s bs
said_heard x None message bs w = refl
said_heard x (Some (Mac h)) message bs w = refl
said_heard x (Some (Next v)) message bs w = refl
said_heard x (Some (Static c v)) message bs w = refl
said_heard x (Some (Event t e v)) message bs w =
    ap (λ (d : _). record { want = v; card = d.card; text = d.text }) (heard x t e message bs w)

added_falls : (x : Card) (w : Want) (t : IfaceAddrs) (o : Result (Unit {0}) Refusal) → rank (added_by x w t o).want ≤ rank w
added_falls x w t (Err why) = omega arith
added_falls x w t (Ok tt) = omega arith

address_falls : (x : Card) (c : Ipv6Cidr) (w : Want) → rank (added_card x c w).want ≤ rank w
unfolding added_card
address_falls x c w =
    let r = add_addr_by (addr_check 0 c (addrs_of x.addrs)) x.addrs c in
    added_falls x w r.addrs r.outcome

applied_falls : (x : Card) (s : Option Said) (bs : List ℕ) → rank (apply_of x s bs).want ≤ rank (next_of s)
applied_falls x None bs = omega arith
applied_falls x (Some (Mac h)) bs = omega arith
applied_falls x (Some (Next v)) bs = omega arith
applied_falls x (Some (Static c v)) bs = address_falls x c v
applied_falls x (Some (Event t e v)) bs = omega arith

pub step_done : (w : Want) (x : Card) (line before message : List ℕ) (s : Option Said) (r : After) {out out' : Text} → length before ≡ 2048
    → SaidTo before w line s message → Stepped (apply_of x s (message_in s message)) out r out' → StepTo w x line out r out'
unfolding step_of
step_done w x line before message s r m p v =
    let i : s ≡ said_in room w line = rw m at p.is in
    let b : ReadySaid message (parsed_bytes room (fields line)) s = rw m at p.ready in
    let g : apply_of x s (message_in s message) ≡ step_of w x line =
    said_heard x s message (parsed_bytes room (fields line)) b ∙ ap (λ (y : Option Said). apply_of x y (parsed_bytes room (fields line))) i in
    let f = applied_falls x s (message_in s message) in
    record {
      is = rw g at v;
      falls = λ k. let d = p.falls k in rw v.want (omega arith);
    }
