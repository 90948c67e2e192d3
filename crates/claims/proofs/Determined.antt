-- A promise that gives its answer by an equation has no second one, and a line has one first field and one rest. Assumes nothing.
use Prim.Native.Nat.{ℕ, ◌+◌, ◌-◌, min}
use lib.ListN.{length}
use lib.Dec.{eqb}
use borrow.Author.Tests.{eqb-true}
use mathlib.Core.Bool.{Bool, true, false, cond, not}
use mathlib.Core.List.{List, [], ◌∷◌, ◌++◌}
use mathlib.Core.Path.{◌≡◌, refl, ap, sym, ◌∙◌}
use native.Mathlib.Omega.{arith}
use Rattle.claims.specs.Determined.{Determined, OneAnswerLeaving, Splits, SameParts}
use Rattle.script.specs.CardRules.{listed_text}
use Rattle.script.specs.StepRules.{step_of, StepTo}
use Rattle.script.specs.declared.card.After.{After}
use Rattle.script.specs.declared.card.Card.{Card}
use Rattle.script.specs.declared.reading.Want.{Want}
use Rattle.table.specs.Calls.{Decides, Keeps}
use Rattle.table.specs.Table.{filled}
use Rattle.text.specs.Addresses.{MessageRead}
use Rattle.text.specs.Fields.{Field, fields, onto}
use Rattle.text.specs.Hex.{bytes_of}
use Rattle.text.specs.Place.{Put, put as put_at}
use Rattle.text.specs.declared.print.Text.{Text}
use Rattle.std.specs.Borrow.{Bor}
use Rattle.std.specs.Prelude.{Option, Some, None}

-- a message goes into its buffer by the answer
read : (field out : List ℕ) → OneAnswerLeaving (MessageRead field out)
read field out r r' left left' h h' = (e, h.bytes ∙ ap (λ (x : Option ℕ). filled out (bytes_of x field)) e ∙ sym h'.bytes)
  where
    e : r ≡ r'
    e = h.is ∙ sym h'.is

put : (out : List ℕ) (at : ℕ) (text : List ℕ) → OneAnswerLeaving (Put out at text)
put out at text r r' left left' h h' = (h.next ∙ sym h'.next, h.is ∙ sym h'.is)

-- the slots that are kept, and their count, by the one test
twice_not : (b : Bool) → b ≡ not (not b)
twice_not true = refl
twice_not false = refl

kept_once : {A : Type 0} (gives : A → Bool → Type 0) (test : A → Bool) → Decides gives test → (n : ℕ) (slots : List A)
    → OneAnswerLeaving (Keeps gives n slots)
kept_once gives test d n slots r r' left left' h h' =
    let opposite : Decides gives (λ x. not (not (test x))) = λ x b g. d x b g ∙ twice_not (test x) in
    let k = h (λ x. not (test x)) opposite in
    let k' = h' (λ x. not (test x)) opposite in
    (k.1 ∙ sym k'.1, k.0 ∙ sym k'.0)

-- a space in front of each field gives the line back, so no two lines have the same fields
abbrev spaced : List Field → List ℕ
spaced [] = []
spaced (f ∷ fs) = 32 ∷ (f ++ spaced fs)

spaced_onto : (b : ℕ) (s : List ℕ) (fs : List Field) → spaced fs ≡ 32 ∷ s → spaced (onto b fs) ≡ 32 ∷ b ∷ s
spaced_onto b s [] h = let z : ◌≡◌ {A = ℕ} 0 1 = cc in absurd (omega arith)
spaced_onto b s (f ∷ fs) h = let e : f ++ spaced fs ≡ s = cc in ap (λ (l : List ℕ). 32 ∷ b ∷ l) e

spaced_by : (b : ℕ) (s : List ℕ) (t : Bool) → eqb b 32 ≡ t → spaced (fields s) ≡ 32 ∷ s → spaced (cond t ([] ∷ fields s) (onto b (fields s))) ≡ 32 ∷ b ∷ s
spaced_by b s true e h = let q : b ≡ 32 = eqb-true b 32 e in ap (λ (l : List ℕ). 32 ∷ l) h ∙ ap (λ (x : ℕ). 32 ∷ x ∷ s) (sym q)
spaced_by b s false e h = spaced_onto b s (fields s) h

spaced_fields : (s : List ℕ) → spaced (fields s) ≡ 32 ∷ s
spaced_fields [] = refl
spaced_fields (b ∷ s) = spaced_by b s (eqb b 32) refl (spaced_fields s)

one_line : (s t : List ℕ) → fields s ≡ fields t → s ≡ t
one_line s t e = let a : 32 ∷ s ≡ 32 ∷ t = sym (spaced_fields s) ∙ ap spaced e ∙ spaced_fields t in cc

some_field : (s : List ℕ) → [] ≡ fields s → ⊥
some_field s e = let a : [] ≡ 32 ∷ s = ap spaced e ∙ spaced_fields s in let z : ◌≡◌ {A = ℕ} 0 1 = cc in omega arith

parts_once : (line f rest f' rest' : List ℕ) → fields line ≡ f ∷ fields rest → fields line ≡ f' ∷ fields rest' → (f ≡ f') × (rest ≡ rest')
parts_once line f rest f' rest' h h' =
    let e : f ∷ fields rest ≡ f' ∷ fields rest' = sym h ∙ h' in
    let a : fields rest ≡ fields rest' = cc in
    (cc, one_line rest rest' a)

alone_once : (line f rest : List ℕ) → fields line ≡ line ∷ [] → fields line ≡ f ∷ fields rest → ⊥
alone_once line f rest h h' = let e : line ∷ [] ≡ f ∷ fields rest = sym h ∙ h' in let a : [] ≡ fields rest = cc in some_field rest a

split_once : (line : Bor (List ℕ)) (r r' : Option (Bor (List ℕ) × Bor (List ℕ))) → Splits line r → Splits line r' → SameParts r r'
split_once line None None h h' = tt
split_once line None (Some p) h h' = alone_once line.now p.0.now p.1.now h.0 h'.0.is
split_once line (Some p) None h h' = alone_once line.now p.0.now p.1.now h'.0 h.0.is
split_once line (Some p) (Some q) h h' =
    let e = parts_once line.now p.0.now p.1.now q.0.now q.1.now h.0.is h'.0.is in
    ((e.0, h.1.front ∙ sym h'.1.front), (e.1, h.1.behind ∙ ((λ i. (line.ref_ptr.0, line.ref_ptr.1 + (length (e.0 i) + 1))) ∙ sym h'.1.behind)))

stepped : (want : Want) (card : Card) (line : List ℕ) (out out' : Text) → out.buf.now ≡ out'.buf.now → out.at ≡ out'.at
    → (r r' : After) (left left' : Text) → StepTo want card line out r left → StepTo want card line out' r' left'
    → (r ≡ r') × (left.buf.now ≡ left'.buf.now) × (left.at ≡ left'.at)
stepped want card line out out' bytes place r r' left left' h h' = (
  ap (λ (x : Want). record { want = x; card = r.card }) (h.is.want ∙ sym h'.is.want)
      ∙ ap (λ (x : Card). record { want = r'.want; card = x }) (h.is.card ∙ sym h'.is.card),
  h.is.put.is ∙ ((λ i. put_at (bytes i) (place i) text) ∙ sym h'.is.put.is),
  h.is.put.next ∙ ((λ i. place i + min (length text) (length (bytes i) - place i)) ∙ sym h'.is.put.next),
)
  where
    text : List ℕ
    text = (step_of want card line).text

pub determined : Determined
determined =
    record {
      position = λ gives test d xs r r' h h'. h test d ∙ sym (h' test d);
      retain = kept_once;
      check = λ rows r r' h h'. h.is ∙ sym h'.is;
      from_link_prefix = λ hw c r r' h h'. h.is ∙ sym h'.is;
      router_advert = λ msg r r' h h'. h.is ∙ sym h'.is;
      write_solicit = λ buf src hw r r' left left' h h'. (h.is ∙ sym h'.is, h.leaves ∙ sym h'.leaves);
      check_option = λ option r r' h h'. h.is ∙ sym h'.is;
      check_options = λ msg from r r' h h'. h.is ∙ sym h'.is;
      next_option = λ msg at r r' h h'. h.is ∙ sym h'.is;
      write = λ msg at bs r r' left left' h h'. (h.is ∙ sym h'.is, h.leaves ∙ sym h'.leaves);
      «data» = λ option r r' h h'. (h.is ∙ sym h'.is, h.at ∙ sym h'.at);
      lookup = λ c iface addr r r' h h'. h.is ∙ sym h'.is;
      start_resolution = λ c iface addr r r' h h'. h.is ∙ sym h'.is;
      fill = λ c iface addr hw now r r' h h'. h.is ∙ sym h'.is;
      insert = λ c iface addr hw expires r r' h h'. h.is ∙ sym h'.is;
      get = λ c iface addr r r' h h'. h.is ∙ sym h'.is;
      neighbour_at = λ c index r r' h h'. h.is ∙ sym h'.is;
      remove = λ c iface addr r r' h h'. h.is ∙ sym h'.is;
      clear_iface = λ c iface r r' h h'. h.is ∙ sym h'.is;
      sweep_at = λ c k iface r r' h h'. h.is ∙ sym h'.is;
      sweep = λ c k iface r r' left left' h h'. (h.is ∙ sym h'.is, h.clock ∙ sym h'.clock);
      push = λ q iface addr handle r r' h h'. h.is ∙ sym h'.is;
      release = λ q iface addr r r' h h'. h.is ∙ sym h'.is;
      purge_orphans = λ q c r r' h h'. h.is ∙ sym h'.is;
      purge_iface = λ q iface r r' h h'. h.is ∙ sym h'.is;
      packet_at = λ q index r r' h h'. h.is ∙ sym h'.is;
      add_ip_addr = λ t iface c r r' h h'. h.is ∙ sym h'.is;
      link_local = λ t r r' h h'. h.is ∙ sym h'.is;
      address_at = λ t index r r' h h'. h.is ∙ sym h'.is;
      add_route = λ t iface c via r r' h h'. h.is ∙ sym h'.is;
      route_at = λ t index r r' h h'. h.is ∙ sym h'.is;
      restart = λ s iface r r' h h'. h.is ∙ sym h'.is;
      turn_on = λ s iface r r' h h'. h.is ∙ sym h'.is;
      prefix_at = λ s index r r' h h'. h.is ∙ sym h'.is;
      router_at = λ s index r r' h h'. h.is ∙ sym h'.is;
      advertisement = λ s c iface source msg now r r' h h'. h.is ∙ sym h'.is;
      poll_at = λ s t r iface up hw buf k p p' left left' h h'. (h.is ∙ sym h'.is, h.leaves ∙ sym h'.leaves);
      poll =
          λ s t r iface up hw buf k p p' buf' buf'' k' k'' h h'.
          (h.is ∙ sym h'.is, h.leaves ∙ sym h'.leaves, h.clock ∙ sym h'.clock);
      turn_off = λ s t r c q iface x x' h h'. h.is ∙ sym h'.is;
      settle = λ card up hw buf now r r' left left' h h'. (h.is ∙ sym h'.is, h.leaves ∙ sym h'.leaves);
      turn = λ card woken received hw buf r r' left left' h h'. (h.is ∙ sym h'.is, h.leaves ∙ sym h'.leaves);
      run = λ card wake inbox received hw buf budget r r' left left' h h'. (h.is ∙ sym h'.is, h.leaves ∙ sym h'.leaves);
      read_message = read;
      find = λ bytes wanted r r' h h'. h ∙ sym h';
      split = split_once;
      print = put;
      parse_event = λ line message r r' left left' h h'. (h.is ∙ sym h'.is, h.bytes ∙ sym h'.bytes);
      listing = λ text most out at r r' left left' h h'. put out at text r r' left left' h.put h'.put;
      read_line = λ message want line r r' left left' h h'. (h.is ∙ sym h'.is, h.bytes ∙ sym h'.bytes);
      step = stepped;
      list = λ card out at r r' left left' h h'. put out at (listed_text card) r r' left left' h.put h'.put;
    }
