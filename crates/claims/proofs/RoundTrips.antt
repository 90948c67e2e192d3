-- What goes out comes back. Assumes nothing.
use Prim.Native.Nat.{ℕ}
use borrow.Author.Tests.{leb-true}
use lib.Dec.{leb}
use lib.ListN.{length, take, drop}
use lib.Seq.{take_at}
use mathlib.Core.Bool.{Bool, true, false, cond}
use mathlib.Core.List.{List}
use mathlib.Core.Path.{◌≡◌, refl, ap, ◌∙◌}
use native.Mathlib.Omega.{arith}
use Rattle.claims.specs.RoundTrips.{RoundTrips}
use Rattle.ndisc.proofs.RoundTrip.{source_back, source_written, target_written, prefix_written, prefix_as_given, mtu_written, untouched}
use Rattle.ndisc.specs.Rfc4861Messages.{Solicits, solicitation}
use Rattle.ndisc.specs.Rfc4861Options.{checked_of}
use Rattle.ndisc.specs.declared.ndisc.Solicited.TheVariants.{Written, NoRoom}
use Rattle.ndisc.specs.declared.ndiscoption.Checked.TheVariants.{Well}
use Rattle.ndisc.specs.declared.ndiscoption.NdiscOption.TheVariants.{SourceLinkLayerAddr}
use Rattle.text.proofs.HexLaws.{read_back}
use Rattle.text.proofs.RoundTrip.{number_reads_back, address_reads_back, hardware_reads_back, message_reads_back, join, clear_decimal, clear_hexed}
use Rattle.wire.proofs.Formed.{formed_back}
use Rattle.wire.proofs.RoundTrip.{round_trips as addresses}
use Rattle.wire.specs.declared.ethernet.HardwareAddress.{HardwareAddress}
use Rattle.wire.specs.declared.ipv6.Ipv6Addr.{Ipv6Addr}

written_room : (b : Bool) → Written ≡ cond b Written NoRoom → b ≡ true
written_room true e = refl
written_room false e = let z : ◌≡◌ {A = ℕ} 0 1 = cc in absurd (omega arith)

module _ (buf : List ℕ) (src : Ipv6Addr) (hw : HardwareAddress) (buf' : List ℕ) (w : Solicits buf src hw Written buf') where
  fits : leb 16 (length buf) ≡ true
  fits = written_room (leb 16 (length buf)) w.is

  -- its first 16 bytes are the solicitation
  sent : take 16 buf' ≡ solicitation src hw
  sent = rw (w.leaves, fits) (take_at (solicitation src hw) (drop 16 buf) 16 refl)

  sender : checked_of (drop 8 (take 16 buf')) ≡ Well (SourceLinkLayerAddr hw) 1
  sender = ap (λ (l : List ℕ). checked_of (drop 8 l)) sent ∙ source_back hw (drop 16 (solicitation src hw))

pub round_trips : RoundTrips
round_trips =
    record {
      addresses = addresses;
      formed = formed_back;
      source = λ a msg at msg'. source_written msg at msg' a;
      target = λ a msg at msg'. target_written msg at msg' a;
      prefix = λ p msg at msg'. prefix_written msg at msg' p;
      mtu = λ n msg at msg'. mtu_written msg at msg' n;
      prefix_as_given = λ p msg at msg'. prefix_as_given msg at msg' p;
      before = λ msg at bs r msg' w. (untouched msg at bs r msg' w).before;
      after = λ msg at bs r msg' w. (untouched msg at bs r msg' w).after;
      size = λ msg at bs r msg' w. (untouched msg at bs r msg' w).size;
      solicitation = λ buf src hw buf' w. w.verifies (leb-true 16 (length buf) (fits buf src hw buf' w));
      sender = sender;
      number = number_reads_back;
      address = address_reads_back;
      hardware = hardware_reads_back;
      message = message_reads_back;
      message_bytes = read_back;
      parted = join;
      number_field = clear_decimal;
      digits_field = clear_hexed;
    }
