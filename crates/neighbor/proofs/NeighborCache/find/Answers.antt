use Rattle.std.proofs.Common.{rules, arith, length, length-take, ◌≡◌}
use Rattle.neighbor.proofs.Calls.{place_within}
use Rattle.neighbor.specs.CacheCalls.{key}
use Rattle.neighbor.specs.NeighborRules.{is_key}
use Rattle.neighbor.proofs.NeighborCache.find.Goals as goal

pub returns-clause-within : goal.returns-clause-within
returns-clause-within c =
    place_within (is_key (key c.args.iface c.args.addr)) _ _ _ (c.position.ensures (is_key (key c.args.iface c.args.addr)) (λ x b h. search rules))
    (let f : length c.args.self.now.slots ≡ 16 = search rules in omega (arith, length-take c.count_of-count.result c.args.self.now.slots, c.count_of-count.ensures))
