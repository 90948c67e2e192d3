-- Laws of lines: the code parts a line at its first space, and reads its last field whole. Assumes nothing.
use Prim.Native.Nat.{ℕ, ◌+◌, ◌*◌, ◌/◌}
use borrow.Author.Tests.{eqb-true, eqb-false}
use lib.Dec.{eqb, ltb}
use lib.ListN.{length, take, drop, length-append}
use lib.Seq.{take-append_seam}
use mathlib.Core.Bool.{Bool, true, false, cond}
use mathlib.Core.List.{List, [], ◌∷◌}
use mathlib.Core.Path.{◌≡◌, refl, sym, ap, ◌∙◌}
use native.Mathlib.Omega.{arith}
use Rattle.lines.specs.EventLines.{ra_of, ra_bytes, start_of, remove_of, fill_of, fill_with, kind_of, kind_bytes_in, word_of, message_bytes, ReadyRead, Silent, RaTo, KindTo}
use Rattle.lines.specs.HeaderLines.{mac_of, count_of, static_of, static_with}
use Rattle.lines.specs.Words.{mac, up, down, poll, sweep, off, ra, start, fill, remove, no_field, last_field}
use Rattle.lines.specs.declared.event.Event.TheVariants.{Up, Down, Poll, Sweep, Off, Ra}
use Rattle.lines.specs.declared.event.Event.{Event}
use Rattle.table.specs.Table.{filled}
use Rattle.std.proofs.lemmas.Slice.Eq.{bytes_eq-Decides}
use Rattle.std.specs.Prelude.{Option, Some, None}
use Rattle.text.proofs.FieldLaws.{alone, parted}
use Rattle.text.proofs.RoundTrip.{Clear, spaced_number, spaced_address, spaced_hardware, spaced_message}
use Rattle.text.specs.Addresses.{address_of, hardware_of, message_of, MessageRead}
use Rattle.text.specs.Decimal.{number_of}
use Rattle.text.specs.Fields.{Field, fields, index_of, Parted, onto}
use Rattle.text.specs.Hex.{unhexed, bytes_of}
use Rattle.std.specs.Str.{bytes_eq}
use Rattle.wire.specs.declared.ethernet.HardwareAddress.{HardwareAddress}
use Rattle.wire.specs.declared.ipv6.Ipv6Addr.{Ipv6Addr}

same : (s w : List ℕ) → bytes_eq s w ≡ true → s ≡ w
same s w = (bytes_eq-Decides s w).0

-- ---- the last field

-- what is read of a last field is none where it has a space in it
abbrev pub Refuses : {A : Type 0} → A → (Field → A) → Type 0
Refuses {A} bad read = (s : List ℕ) → (Clear s → ⊥) → read s ≡ bad

onto_some : {A : Type 0} (bad : A) (read : Field → A) (f : Field) (b : ℕ) (fs : List Field) → last_field bad read (f ∷ onto b fs) ≡ bad
onto_some bad read f b [] = refl
onto_some bad read f b (g ∷ fs) = refl

two_by : {A : Type 0} (bad : A) (read : Field → A) (f : Field) (b : ℕ) (s : List ℕ) (t : Bool)
    → last_field bad read (f ∷ cond t ([] ∷ fields s) (onto b (fields s))) ≡ bad
two_by bad read f b s true = refl
two_by bad read f b s false = onto_some bad read f b (fields s)

two : {A : Type 0} (bad : A) (read : Field → A) (f : Field) (s : List ℕ) → last_field bad read (f ∷ fields s) ≡ bad
two bad read f [] = refl
two bad read f (b ∷ s) = two_by bad read f b s (eqb b 32)

last_by : {A : Type 0} (bad : A) (read : Field → A) → Refuses bad read → (s : List ℕ) (t : Bool) → eqb (index_of 32 s) (length s) ≡ t
    → last_field bad read (fields s) ≡ read s
last_by bad read w s true e = rw (alone s (eqb-true (index_of 32 s) (length s) e)) refl
last_by bad read w s false e =
    let n = eqb-false (index_of 32 s) (length s) e in
    rw (parted s n) (two bad read (take (index_of 32 s) s) (drop (index_of 32 s + 1) s) ∙ sym (w s n))

-- so it can be read whole
pub last : {A : Type 0} (bad : A) (read : Field → A) → Refuses bad read → (s : List ℕ) → last_field bad read (fields s) ≡ read s
last bad read w s = last_by bad read w s (eqb (index_of 32 s) (length s)) refl

pub last_number : (s : List ℕ) → last_field None number_of (fields s) ≡ number_of s
last_number s = last None number_of spaced_number s

pub last_address : (s : List ℕ) → last_field None address_of (fields s) ≡ address_of s
last_address s = last None address_of spaced_address s

pub last_hardware : (s : List ℕ) → last_field None hardware_of (fields s) ≡ hardware_of s
last_hardware s = last None hardware_of spaced_hardware s

pub last_message : (room : ℕ) (s : List ℕ) → last_field None (message_of room) (fields s) ≡ message_of room s
last_message room s = last None (message_of room) (spaced_message room) s

pub last_bytes : (room : ℕ) (s : List ℕ) → last_field [] (message_bytes room) (fields s) ≡ message_bytes room s
last_bytes room s = last [] (message_bytes room) (λ t n. ap (λ (m : Option ℕ). bytes_of m t) (spaced_message room t n)) s

no_message : (k : ℕ) → None ≡ Some k → ⊥
no_message k p = let z : ◌≡◌ {A = ℕ} 0 1 = cc in omega arith

same_bytes : (j k : ℕ) → Some j ≡ Some k → k ≡ j
same_bytes j k p = cc

count_by : (j k : ℕ) (u t v : Bool) → cond u None (cond t None (cond v (Some j) None)) ≡ Some k → k ≡ j
count_by j k true t v p = absurd (no_message k p)
count_by j k false true v p = absurd (no_message k p)
count_by j k false false true p = same_bytes j k p
count_by j k false false false p = absurd (no_message k p)

bytes_count : (room : ℕ) (s : List ℕ) (k : ℕ) → message_of room s ≡ Some k → k ≡ length (unhexed s)
unfolding message_of
bytes_count room s k p =
    count_by (length (unhexed s)) k (ltb room (length s / 2)) (eqb (length (unhexed s)) 0) (eqb (2 * length (unhexed s)) (length s)) p

-- ---- an advertisement's line: first the source, then the message

module _ (s message : List ℕ) (f rest : List ℕ) (cut : Parted s f rest) (a : Ipv6Addr) (p : address_of f ≡ Some a) where
  pub ra_none : (message' : List ℕ) (r : Option ℕ) → MessageRead rest message r message' → r ≡ None → RaTo s message None message'
  ra_none message' r w z =
      let m : message_of (length message) rest ≡ None = sym w.is ∙ z in
      let b : message' ≡ message = rw z at w.bytes in
      record {
        is = rw (cut.is, p, last_message (length message) rest, m) refl;
        bytes = rw (cut.is, p, last_bytes (length message) rest, m) b;
        ready = tt;
      }

  pub ra_good : (message' : List ℕ) (r : Option ℕ) (k : ℕ) → MessageRead rest message r message' → r ≡ Some k → RaTo s message (Some (Ra a k)) message'
  ra_good message' r k w z =
      let m : message_of (length message) rest ≡ Some k = sym w.is ∙ z in
      let b : message' ≡ filled message (unhexed rest) = rw z at w.bytes in
      let n : k ≡ length (unhexed rest) = bytes_count (length message) rest k m in
      let v : ra_bytes (length message) (fields s) ≡ unhexed rest = rw (cut.is, p, last_bytes (length message) rest, m) refl in
      let l : length (filled message (unhexed rest)) ≡ length (unhexed rest) + length (drop (length (unhexed rest)) message) =
      length-append (unhexed rest) (drop (length (unhexed rest)) message) in
      record {
        is = rw (cut.is, p, last_message (length message) rest, m) refl;
        bytes = rw v b;
        ready = (
          rw b (omega arith),
          rw (v, b, n) (take-append_seam (unhexed rest) (drop (length (unhexed rest)) message)),
        );
      }

-- ---- kinds

-- with an event that is no advertisement go no bytes
silent : (message bs : List ℕ) (r : Option Event) → Silent r → bs ≡ [] → ReadyRead message bs r
silent message bs (Some e) z b = (omega arith, rw (z, b) refl)
silent message bs None w b = tt

either : {A : Type 0} (x : A) (b : Bool) → cond b x x ≡ x
either x true = refl
either x false = refl

-- a choice of which both ends are x
ends : {A : Type 0} (x y : A) (b : Bool) → y ≡ x → cond b x y ≡ x
ends x y true e = refl
ends x y false e = e

module _ (room : ℕ) (w : Field) where
  lone : cond {A = Option Event} (bytes_eq w ra) None (cond {A = Option Event} (bytes_eq w start) None (cond {A = Option Event} (bytes_eq w fill) None (cond {A = Option Event} (bytes_eq w remove) None None))) ≡ None
  lone =
      ends {A = Option Event} None _ (bytes_eq w ra) (ends {A = Option Event} None _ (bytes_eq w start) (ends {A = Option Event} None _ (bytes_eq w fill) (either {A = Option Event} None (bytes_eq w remove))))

  -- with no field more, it is one of the words
  word_kind : kind_of room w [] ≡ word_of w
  unfolding kind_of
  word_kind = rw lone refl

  some_by : (b : ℕ) (s : List ℕ) (g : Option Event) (fs : List Field) (t : Bool) → no_field None g (cond t ([] ∷ fields s) (onto b fs)) ≡ None
  some_by b s g fs true = refl
  some_by b s g [] false = refl
  some_by b s g (f ∷ fs) false = refl

  some : (s : List ℕ) (g : Option Event) → no_field None g (fields s) ≡ None
  some [] g = refl
  some (b ∷ s) g = some_by b s g (fields s) (eqb b 32)

  -- with a field more, and none of the other words, it is bad
  other_kind : (s : List ℕ) → bytes_eq w ra ≡ false → bytes_eq w start ≡ false → bytes_eq w fill ≡ false → bytes_eq w remove ≡ false → kind_of room w (fields s) ≡ None
  unfolding kind_of
  other_kind s p q r t =
      rw (p, q, r, t, some s (Some Up), some s (Some Down), some s (Some Poll), some s (Some Sweep), some s (Some Off))
      (ends {A = Option Event} None _ (bytes_eq w up) (ends {A = Option Event} None _ (bytes_eq w down) (ends {A = Option Event} None _ (bytes_eq w poll) (ends {A = Option Event} None _ (bytes_eq w sweep) (either {A = Option Event} None (bytes_eq w off))))))

  ra_kind : (fs : List Field) → bytes_eq w ra ≡ true → kind_of room w fs ≡ ra_of room fs
  unfolding kind_of
  ra_kind fs p = ap (λ (v : Field). kind_of room v fs) (same w ra p)

  start_kind : (fs : List Field) → bytes_eq w start ≡ true → kind_of room w fs ≡ start_of fs
  unfolding kind_of
  start_kind fs p = ap (λ (v : Field). kind_of room v fs) (same w start p)

  fill_kind : (fs : List Field) → bytes_eq w fill ≡ true → kind_of room w fs ≡ fill_of fs
  unfolding kind_of
  fill_kind fs p = ap (λ (v : Field). kind_of room v fs) (same w fill p)

  remove_kind : (fs : List Field) → bytes_eq w remove ≡ true → kind_of room w fs ≡ remove_of fs
  unfolding kind_of
  remove_kind fs p = ap (λ (v : Field). kind_of room v fs) (same w remove p)

pub kind_word : (s message : List ℕ) (r : Option Event) → fields s ≡ s ∷ [] → r ≡ word_of s → Silent r → KindTo s message r message
kind_word s message r e p q =
    let none : kind_bytes_in (length message) (fields s) ≡ [] = rw e (either {A = List ℕ} [] (bytes_eq s ra)) in
    record { is = rw e (p ∙ sym (word_kind (length message) s)); bytes = rw none refl; ready = silent message _ r q none }

module _ (s message w rest : List ℕ) (cut : Parted s w rest) where
  pub kind_ra : (r : Option Event) (message' : List ℕ) → bytes_eq w ra ≡ true → RaTo rest message r message' → KindTo s message r message'
  kind_ra r message' p v =
      let b : kind_bytes_in (length message) (fields s) ≡ ra_bytes (length message) (fields rest) = rw (cut.is, p) refl in
      record {
        is = rw cut.is (v.is ∙ sym (ra_kind (length message) w (fields rest) p));
        bytes = rw b v.bytes;
        ready = rw b v.ready;
      }

  module _ (p : bytes_eq w ra ≡ false) where
    none : kind_bytes_in (length message) (fields s) ≡ []
    none = rw (cut.is, p) refl

    pub kind_start : (r : Option Event) → bytes_eq w start ≡ true → (r ≡ start_of (fields rest)) × Silent r → KindTo s message r message
    kind_start r q v =
        record { is = rw cut.is (v.0 ∙ sym (start_kind (length message) w (fields rest) q)); bytes = rw none refl; ready = silent message _ r v.1 none }

    pub kind_fill : (r : Option Event) → bytes_eq w fill ≡ true → (r ≡ fill_of (fields rest)) × Silent r → KindTo s message r message
    kind_fill r q v =
        record { is = rw cut.is (v.0 ∙ sym (fill_kind (length message) w (fields rest) q)); bytes = rw none refl; ready = silent message _ r v.1 none }

    pub kind_remove : (r : Option Event) → bytes_eq w remove ≡ true → (r ≡ remove_of (fields rest)) × Silent r → KindTo s message r message
    kind_remove r q v =
        record { is = rw cut.is (v.0 ∙ sym (remove_kind (length message) w (fields rest) q)); bytes = rw none refl; ready = silent message _ r v.1 none }

    pub kind_none : bytes_eq w start ≡ false → bytes_eq w fill ≡ false → bytes_eq w remove ≡ false → KindTo s message None message
    kind_none q r t =
        record { is = rw cut.is (sym (other_kind (length message) w rest p q r t)); bytes = rw none refl; ready = tt }

-- ---- fill's line

fill_bad_by : (x : Option Ipv6Addr) → fill_with x None ≡ None
fill_bad_by (Some a) = refl
fill_bad_by None = refl

pub fill_one : (s : List ℕ) → fields s ≡ s ∷ [] → None ≡ fill_of (fields s)
fill_one s e = rw e (sym (fill_bad_by (address_of s)))

pub fill_with_lem : (s f rest : List ℕ) (x : Option Ipv6Addr) (y : Option HardwareAddress) → Parted s f rest → address_of f ≡ x → hardware_of rest ≡ y → fill_with x y ≡ fill_of (fields s)
fill_with_lem s f rest x y cut p q = rw (cut.is, p, last_hardware rest, q) refl

-- ---- header lines

pub mac_one : (s : List ℕ) → fields s ≡ s ∷ [] → None ≡ mac_of (fields s)
mac_one s e = rw e (sym (either {A = Option HardwareAddress} None (bytes_eq s mac)))

pub count_one : (s w : List ℕ) → fields s ≡ s ∷ [] → None ≡ count_of w (fields s)
count_one s w e = rw e (sym (either {A = Option ℕ} None (bytes_eq s w)))

static_none : (x : Option Ipv6Addr) → static_with x None ≡ None
static_none (Some a) = refl
static_none None = refl

pub static_one : (s : List ℕ) → fields s ≡ s ∷ [] → None ≡ static_of (fields s)
static_one s e = rw e (sym (static_none (address_of s)))
