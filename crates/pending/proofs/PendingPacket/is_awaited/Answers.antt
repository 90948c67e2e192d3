use Rattle.std.proofs.Common.{rules, ◌≡◌}
use Rattle.std.proofs.lemmas.Iterator.{YieldsList-from_slice}
use Rattle.std.proofs.lemmas.Iterator.Search.{find_from_yields_List}
use Rattle.std.specs.List.{find}
use Rattle.std.specs.Option.{option_map}
use Rattle.neighbor.specs.NeighborRules.{is_key}
use Rattle.neighbor.specs.declared.Entry.{Entry}
use Rattle.pending.proofs.Calls.{awaited_first}
use Rattle.pending.specs.QueueRules.{key_of}
use borrow.Author.Tests.{tests}
use denote.Ref.{Bor}
use Rattle.pending.proofs.PendingPacket.is_awaited.Goals as goal

pub returns : goal.returns
returns c =
    let found : option_map (λ (e : Bor Entry). e.now) c.find.result ≡ find (is_key (key_of c.args.self.now)) c.args.neighbors.now =
    find_from_yields_List (is_key (key_of c.args.self.now)) _ _ c.find.result c.find.ensures.ran (YieldsList-from_slice c.args.neighbors.now cc) (λ x b q k. search (rules, tests)) in
    awaited_first (key_of c.args.self.now) c.args.neighbors.now c.find.result _ found (search rules)
