use Rattle.std.proofs.Common.{arith, refl, List, ℕ, ap, ◌∙◌, ◌++◌, length, drop, ◌≤◌}
use borrow.Rule.Slice.PartMut.{put_mid}
use Rattle.wire.proofs.Words.{sent16}
use Rattle.ndisc.proofs.RoundTrip.{room_of}
use Rattle.ndisc.proofs.Solicit.{headed, written}
use Rattle.ndisc.specs.OptionCalls.{link_layer_bytes}
use Rattle.ndisc.proofs.ndisc.write_solicit.Goals as goal

pub returns : goal.returns
returns c =
    let a = c.args in
    let option = c.in-Ok.ensures in
    let room : 16 ≤ length a.buf.now = room_of a.buf.now 8 _ (link_layer_bytes 1 a.hardware_addr) option in
    let sum = c.copy_from_slice-2.ensures.after ∙ (c.to_be_bytes.ensures ∙ sent16 c.checksum-sum.result (omega arith)) in
    let e = headed a.buf.now _ _ c.copy_from_slice.new.self a.hardware_addr room c.write_source_link_layer_addr.ensures.leaves c.copy_from_slice.ensures.after refl in
    written a.buf.now _ _ a.src _ a.hardware_addr _
    (record { hi = omega arith; lo = omega arith; hardware_hi = omega arith; hardware_lo = omega arith }) room e
    c.from_octets-dst.ensures c.checksum-sum.ensures (ap (λ (l : List ℕ). put_mid 2 2 (c.copy_from_slice.new.self ++ drop 8 c.write_source_link_layer_addr.new.msg) l) sum)
