use Rattle.std.proofs.Common.{true, false, ◌≡◌}
use Rattle.std.specs.Str.{bytes_eq}
use Rattle.lines.proofs.LineLaws.{kind_word, kind_ra, kind_start, kind_fill, kind_remove, kind_none}
use Rattle.lines.specs.Words.{ra, start, fill, remove}
use Rattle.lines.proofs.event.read_event.Goals as goal

pub returns-in_default : goal.returns-in_default
returns-in_default c = kind_word c.args.rest.now c.args.message.now _ c.in_default.ensures.is c.read_word.ensures.0 c.read_word.ensures.1

pub returns-then-eq : goal.returns-then-eq
returns-then-eq c =
    let p : bytes_eq c.in-Some.word.now ra ≡ true = cc in
    kind_ra c.args.rest.now c.args.message.now _ _ c.in-Some.ensures.is _ _ p c.read_ra.ensures

pub returns-then-eq-2 : goal.returns-then-eq-2
returns-then-eq-2 c =
    let p : bytes_eq c.in-Some.word.now ra ≡ false = cc in
    let q : bytes_eq c.in-Some.word.now start ≡ true = cc in
    kind_start c.args.rest.now c.args.message.now _ _ c.in-Some.ensures.is p _ q c.read_start.ensures

pub returns-then-eq-3 : goal.returns-then-eq-3
returns-then-eq-3 c =
    let p : bytes_eq c.in-Some.word.now ra ≡ false = cc in
    let q : bytes_eq c.in-Some.word.now fill ≡ true = cc in
    kind_fill c.args.rest.now c.args.message.now _ _ c.in-Some.ensures.is p _ q c.read_fill.ensures

pub returns-then-eq-4 : goal.returns-then-eq-4
returns-then-eq-4 c =
    let p : bytes_eq c.in-Some.word.now ra ≡ false = cc in
    let q : bytes_eq c.in-Some.word.now remove ≡ true = cc in
    kind_remove c.args.rest.now c.args.message.now _ _ c.in-Some.ensures.is p _ q c.read_remove.ensures

pub returns-else-eq-4 : goal.returns-else-eq-4
returns-else-eq-4 c =
    let p : bytes_eq c.in-Some.word.now ra ≡ false = cc in
    let q : bytes_eq c.in-Some.word.now start ≡ false = cc in
    let r : bytes_eq c.in-Some.word.now fill ≡ false = cc in
    let t : bytes_eq c.in-Some.word.now remove ≡ false = cc in
    kind_none c.args.rest.now c.args.message.now _ _ c.in-Some.ensures.is p q r t
