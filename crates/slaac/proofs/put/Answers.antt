use Rattle.std.proofs.Common.{ℕ, true, sym, subst, set}
use Rattle.slaac.proofs.SlotLaws.{seated, put_at, put_full}
use Rattle.slaac.specs.Slots.{PutTo}
use Rattle.slaac.proofs.put.Goals as goal

pub returns-then-at-slots : goal.returns-then-at-slots
returns-then-at-slots g c =
    λ test d.
    let s = c.args.slots.now in
    subst (λ (m : ℕ). PutTo test c.args.entry s c.args.len.now (set s c.unwrap_or-at.result c.args.entry) m true) (sym c.max.ensures)
    (put_at test c.args.entry s _ _ _ c.count_of-count.ensures (seated _ s _ _ _ _ c.count_of-count.ensures (c.position.ensures test d) c.unwrap_or-at.ensures) c.if-at-slots.true)

pub returns : goal.returns
returns g c =
    λ test d.
    put_full test c.args.entry _ _ _ _ c.count_of-count.ensures (seated _ _ _ _ _ _ c.count_of-count.ensures (c.position.ensures test d) c.unwrap_or-at.ensures)
    c.if-at-slots.false
