use Rattle.std.proofs.Common.{arith, refl, sym, ap, None, inl, inr, ◌∙◌}
use Rattle.script.proofs.ReadingLaws.{too_long, says, over, address_falls, event_falls, as_rank, next_as, static_as, happens_as}
use Rattle.script.specs.ReadingRules.{addresses_said, address_said, events_said, event_said}
use Rattle.script.specs.declared.reading.Want.TheVariants.{Mac, Addresses, Address, Events, Event, Nothing}
use Rattle.script.proofs.reading.read_line.Goals as goal

pub returns-then-line-gt-LINE_MAX : goal.returns-then-line-gt-LINE_MAX
returns-then-line-gt-LINE_MAX c = too_long _ _ _ c.if-line-gt-LINE_MAX.true

pub returns-in_err-hardware_addr-in-Mac : goal.returns-in_err-hardware_addr-in-Mac
returns-in_err-hardware_addr-in-Mac c = rw c.from_residual.ensures (says _ _ _ _ c.if-line-gt-LINE_MAX.false Mac None c.in-Mac.is (grind arith) refl tt (omega arith))

pub returns-in_ok-hardware_addr-in-Mac : goal.returns-in_ok-hardware_addr-in-Mac
returns-in_ok-hardware_addr-in-Mac c = says _ _ _ _ c.if-line-gt-LINE_MAX.false Mac _ c.in-Mac.is (grind arith) refl tt (omega arith)

pub returns-in_err-counted-in-Addresses : goal.returns-in_err-counted-in-Addresses
returns-in_err-counted-in-Addresses c = rw c.from_residual-in_err-counted-in-Addresses.ensures (says _ _ _ _ c.if-line-gt-LINE_MAX.false Addresses None c.in-Addresses.is (sym (ap addresses_said (sym c.counted.ensures ∙ c.in_err-counted-in-Addresses.was))) refl tt (omega arith))

pub returns-in_ok-counted-in-Addresses : goal.returns-in_ok-counted-in-Addresses
returns-in_ok-counted-in-Addresses c = says _ _ _ _ c.if-line-gt-LINE_MAX.false Addresses _ c.in-Addresses.is (next_as c.address_want.ensures ∙ sym (ap addresses_said (sym c.counted.ensures ∙ c.in_ok-counted-in-Addresses.was))) refl tt (as_rank c.address_want.ensures (omega (arith, address_falls c.in_ok-counted-in-Addresses.field-0)))

pub returns-in_err-address_line-in-Address : goal.returns-in_err-address_line-in-Address
returns-in_err-address_line-in-Address c = rw c.from_residual-in_err-address_line-in-Address.ensures (says _ _ _ _ c.if-line-gt-LINE_MAX.false (Address c.in-Address.left) None c.in-Address.is (sym (ap (address_said c.in-Address.left) (sym c.address_line.ensures ∙ c.in_err-address_line-in-Address.was))) refl tt (omega arith))

pub returns-in_ok-address_line-in-Address : goal.returns-in_ok-address_line-in-Address
returns-in_ok-address_line-in-Address c = says _ _ _ _ c.if-line-gt-LINE_MAX.false (Address c.in-Address.left) _ c.in-Address.is (static_as c.address_want-in-Address.ensures ∙ sym (ap (address_said c.in-Address.left) (sym c.address_line.ensures ∙ c.in_ok-address_line-in-Address.was))) refl tt (as_rank c.address_want-in-Address.ensures (address_falls c.in-Address.left))

pub returns-in_err-counted-in-Events : goal.returns-in_err-counted-in-Events
returns-in_err-counted-in-Events c = rw c.from_residual-in_err-counted-in-Events.ensures (says _ _ _ _ c.if-line-gt-LINE_MAX.false Events None c.in-Events.is (sym (ap events_said (sym c.counted-in-Events.ensures ∙ c.in_err-counted-in-Events.was))) refl tt (omega arith))

pub returns-in_ok-counted-in-Events : goal.returns-in_ok-counted-in-Events
returns-in_ok-counted-in-Events c = says _ _ _ _ c.if-line-gt-LINE_MAX.false Events _ c.in-Events.is (next_as c.event_want.ensures ∙ sym (ap events_said (sym c.counted-in-Events.ensures ∙ c.in_ok-counted-in-Events.was))) refl tt (as_rank c.event_want.ensures (omega (arith, event_falls c.in_ok-counted-in-Events.field-0)))

pub returns-in_err-time-in-Event : goal.returns-in_err-time-in-Event
returns-in_err-time-in-Event c = rw c.from_residual-in_err-time-in-Event.ensures (says _ _ _ _ c.if-line-gt-LINE_MAX.false (Event c.in-Event.left) None c.in-Event.is (sym (ap (event_said c.in-Event.left) (sym c.parse_event.ensures.is ∙ c.in_err-time-in-Event.was))) c.parse_event.ensures.bytes tt (omega arith))

pub returns-in_ok-time-in-Event : goal.returns-in_ok-time-in-Event
returns-in_ok-time-in-Event c = says _ _ _ _ c.if-line-gt-LINE_MAX.false (Event c.in-Event.left) _ c.in-Event.is (happens_as c.event_want-in-Event.ensures ∙ sym (ap (event_said c.in-Event.left) (sym c.parse_event.ensures.is ∙ c.in_ok-time-in-Event.was))) c.parse_event.ensures.bytes (rw c.in_ok-time-in-Event.was at c.parse_event.ensures.ready) (as_rank c.event_want-in-Event.ensures (event_falls c.in-Event.left))

pub returns-in-Nothing : goal.returns-in-Nothing
returns-in-Nothing c =
    elim c.in-Nothing.is [
      | inl e ↦ says _ _ _ _ c.if-line-gt-LINE_MAX.false Nothing None e refl refl tt (omega arith)
      | inr e ↦ over _ _ _ _ c.if-line-gt-LINE_MAX.false e refl
    ]
