use Rattle.std.proofs.Common.{ap, sym, ◌∙◌, Ok}
use Rattle.mainloop.proofs.LoopLaws.{hear_only, hear_known}
use Rattle.mainloop.proofs.hear.Goals as goal

pub returns-in_default : goal.returns-in_default
returns-in_default c =
    hear_only c.args.card c.args.source c.args.message.now c.args.timestamp c.process_advertisement-heard.result c.process_advertisement-heard.ensures
    c.lookup.result c.lookup.ensures (λ hw e. c.in_default.not-Ok _ e) c.new.result c.new.ensures

pub returns-in_default-known : goal.returns-in_default-known
returns-in_default-known c =
    hear_only c.args.card c.args.source c.args.message.now c.args.timestamp c.process_advertisement-heard.result c.process_advertisement-heard.ensures
    c.lookup.result c.lookup.ensures (λ hw e. c.in_default-known.not-Found hw (let f = sym c.in-Ok.is ∙ e in cc)) c.new.result c.new.ensures

pub returns : goal.returns
returns c =
    hear_known c.args.card c.args.source c.args.message.now c.args.timestamp c.process_advertisement-heard.result c.process_advertisement-heard.ensures
    c.lookup.result c.lookup.ensures c.in-Found.hardware_addr (c.in-Ok.is ∙ ap Ok c.in-Found.is) c.release_all-released.result c.release_all-released.ensures
