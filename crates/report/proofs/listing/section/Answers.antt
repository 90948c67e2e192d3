use Rattle.std.proofs.Common.{refl, ap, ◌∙◌}
use Rattle.report.proofs.ListingLaws.{one_listed, section_listed}
use Rattle.report.specs.StateLines.{ended}
use Rattle.text.proofs.PlaceLaws.{chain, put_as, put_none}
use Rattle.report.proofs.listing.section.Goals as goal

pub loop-entry-init : goal.loop-entry-init
loop-entry-init g c = (λ text puts. put_none _ _, λ keeps. refl)

pub loop-entry-preserved : goal.loop-entry-preserved
loop-entry-preserved g c = (
  λ text puts.
      one_listed c.entry-item.result (ended text) _ _ c.loop-entry-test.true (c.loop-entry.invariant.0 text puts)
      (chain (put_as (ap text c.entry-item.is) (puts _ _ _ c.fields.ensures)) c.byte.ensures.adds),
  λ keeps. c.byte.ensures.same_buffer ∙ keeps _ _ _ c.fields.ensures ∙ c.loop-entry.invariant.1 keeps,
)

pub returns-clause-adds : goal.returns-clause-adds
returns-clause-adds g c =
    λ text puts.
    section_listed c.args.name.now (ended text) c.args.slots.now c.args.len _ _ c.count_of-count.ensures c.loop-entry-test.false c.heading.ensures.adds
    (c.loop-entry.invariant.0 text puts)

pub returns-clause-same_buffer : goal.returns-clause-same_buffer
returns-clause-same_buffer g c = λ keeps. c.loop-entry.invariant.1 keeps ∙ c.heading.ensures.same_buffer
