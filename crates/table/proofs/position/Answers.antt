use Rattle.std.proofs.lemmas.Iterator.{YieldsList-from_slice}
use Rattle.std.proofs.lemmas.Iterator.Search.{position_from_yields_List}
use Rattle.table.proofs.Calls.{decided_step, first_place}
use Rattle.table.specs.Calls.{place_of}
use Rattle.table.proofs.position.Goals as goal

pub returns : goal.returns
unfolding place_of
returns g c =
    λ test d.
    let e = position_from_yields_List test _ _ c.position.result c.position.ensures.ran (YieldsList-from_slice c.args.entries.now c.iter.ensures.rest) (λ x b q k. decided_step g.F.Fn c.args.test test d g.met.F.FnMut.1 g.met.F.Fn.1 x b q k.met) in
    rw (first_place test c.args.entries.now) e
