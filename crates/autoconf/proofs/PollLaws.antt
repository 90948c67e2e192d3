-- Laws of the poll.
use Prim.Native.Nat.{ℕ}
use lib.Dec.{leb}
use lib.ListN.{length, drop}
use mathlib.Core.Bool.{Bool, true, false, cond, ◌&&◌}
use mathlib.Core.List.{List, [], ◌++◌}
use mathlib.Core.Path.{◌≡◌, refl, ap, sym, ◌∙◌}
use Rattle.std.specs.Prelude.{Option, Some, None, Result, Ok}
use Rattle.wire.specs.declared.error.Refusal.{Refusal}
use Rattle.iface.specs.AddressRules.{addrs_of, first_local}
use Rattle.iface.specs.declared.addr.IfaceAddrs.{IfaceAddrs}
use Rattle.iface.specs.declared.route.Routes.{Routes}
use Rattle.slaac.specs.DiscoveryRules.{solicitation}
use Rattle.slaac.specs.Fields.{with_discovery}
use Rattle.slaac.specs.ExpiryRules.{sync_due, leave_expired}
use Rattle.slaac.specs.declared.Discovery.{Discovery}
use Rattle.slaac.specs.declared.Slaac.{Slaac}
use Rattle.slaac.specs.declared.Solicitation.{Solicitation}
use Rattle.ndisc.specs.Rfc4861Messages.{Solicits, solicitation as message}
use Rattle.ndisc.specs.declared.ndisc.Solicited.TheVariants.{NoRoom as NoPlace, Written}
use Rattle.ndisc.specs.declared.ndisc.Solicited.{Solicited as Wrote}
use Rattle.autoconf.specs.Answers.{poll_number, poll_sent}
use Rattle.wire.specs.Refusals.{time_check, check_number}
use Rattle.autoconf.specs.PollRules.{sender_of, solicit_from, answer_of, turn_for, buffer_by, sent_by, turn_of, buffer_of, sent_of, TurnTo, polled, sync_turn, after_turn, sender_in, poll_on, poll_by, poll_buffer, poll_message, PolledTo}
use Rattle.autoconf.specs.SyncRules.{sync_addrs, sync_routes}
use Rattle.autoconf.specs.declared.PollAnswer.TheVariants.{Off, Quiet, Solicited, NoRoom}
use Rattle.autoconf.specs.declared.PollAnswer.{PollAnswer}
use Rattle.autoconf.specs.declared.PolledAt.{PolledAt}
use Rattle.autoconf.specs.declared.Turn.{Turn}
use Rattle.time.specs.declared.Answer.{Answer}
use Rattle.time.specs.declared.Clock.{Clock}
use Rattle.time.specs.declared.Instant.{Instant}
use Rattle.wire.specs.declared.ethernet.HardwareAddress.{HardwareAddress}
use Rattle.wire.specs.declared.ipv6.Ipv6Addr.{Ipv6Addr}

-- Solicitation

abbrev pub turned : Discovery → Clock → PollAnswer → Turn
turned d k a = record { discovery = d; clock = k; answer = a }

no_refusal : (due room : Bool) → poll_number (Ok (cond due (cond room Solicited NoRoom) Quiet)) ≡ 0
no_refusal true true = refl
no_refusal true false = refl
no_refusal false room = refl

sent : (a : Ipv6Addr) (hw : HardwareAddress) (buf : List ℕ) (due room : Bool)
    → poll_sent (Ok (cond due (cond room Solicited NoRoom) Quiet)) (cond due (cond room (message a hw ++ drop 16 buf) buf) buf)
    ≡ cond (due && room) (message a hw) []
sent a hw buf true true = refl
sent a hw buf true false = refl
sent a hw buf false true = refl
sent a hw buf false false = refl

module _ (d : Discovery) (hw : HardwareAddress) (buf : List ℕ) (k : Clock) where
  -- no sender
  pub turn_none : (sender : Option Ipv6Addr) → sender ≡ None → TurnTo d sender hw buf k (turned d k Quiet) buf
  unfolding turn_of buffer_of sent_of
  turn_none sender e =
      record {
        is = ap (λ (x : Option Ipv6Addr). turn_for (solicit_from x d k) buf) (sym e);
        number = refl;
        sends = ap (λ (x : Option Ipv6Addr). sent_by x (solicit_from x d k).due hw buf) (sym e);
        leaves = ap (λ (x : Option Ipv6Addr). buffer_by x (solicit_from x d k).due hw buf) (sym e);
      }

  module _ (sender : Option Ipv6Addr) (a : Ipv6Addr) (e : sender ≡ Some a) (s : Solicitation) (g : s ≡ solicitation d k) where
    -- what a sender's turn is, by whether a solicitation is due
    from_sender : (t : Turn) (buf' : List ℕ) → t ≡ turn_for s buf → buf' ≡ buffer_by (Some a) s.due hw buf → TurnTo d sender hw buf k t buf'
    unfolding turn_of buffer_of sent_of
    from_sender t buf' p q =
        record {
          is = p ∙ (ap (λ (x : Solicitation). turn_for x buf) g ∙ ap (λ (x : Option Ipv6Addr). turn_for (solicit_from x d k) buf) (sym e));
          number = ap (λ (x : Turn). poll_number (Ok x.answer)) p ∙ no_refusal s.due (leb 16 (length buf));
          sends =
              (λ i. poll_sent (Ok (p i).answer) (q i))
              ∙ (sent a hw buf s.due (leb 16 (length buf))
              ∙ (ap (λ (x : Solicitation). sent_by (Some a) x.due hw buf) g
              ∙ ap (λ (x : Option Ipv6Addr). sent_by x (solicit_from x d k).due hw buf) (sym e)));
          leaves =
              q
              ∙ (ap (λ (x : Solicitation). buffer_by (Some a) x.due hw buf) g
              ∙ ap (λ (x : Option Ipv6Addr). buffer_by x (solicit_from x d k).due hw buf) (sym e));
        }

    pub turn_early : s.due ≡ false → TurnTo d sender hw buf k (turned s.discovery s.clock Quiet) buf
    turn_early h =
        from_sender (turned s.discovery s.clock Quiet) buf
        (ap (λ (b : Bool). turned s.discovery s.clock (answer_of b buf)) (sym h))
        (ap (λ (b : Bool). buffer_by (Some a) b hw buf) (sym h))

    module _ (h : s.due ≡ true) (r : Wrote) (buf' : List ℕ) (w : Solicits buf a hw r buf') where
      said : (x : PollAnswer) → x ≡ cond (leb 16 (length buf)) Solicited NoRoom → TurnTo d sender hw buf k (turned s.discovery s.clock x) buf'
      said x f =
          from_sender (turned s.discovery s.clock x) buf'
          (ap (λ (y : PollAnswer). turned s.discovery s.clock y) f ∙ ap (λ (b : Bool). turned s.discovery s.clock (answer_of b buf)) (sym h))
          (w.leaves ∙ ap (λ (b : Bool). buffer_by (Some a) b hw buf) (sym h))

      pub turn_sent : r ≡ Written → TurnTo d sender hw buf k (turned s.discovery s.clock Solicited) buf'
      turn_sent f = said Solicited (go (leb 16 (length buf)) (sym w.is ∙ f))
        where
          go : (b : Bool) → cond {A = Wrote} b Written NoPlace ≡ Written → Solicited ≡ cond b Solicited NoRoom
          go true z = refl
          go false z = cc

      pub turn_full : r ≡ NoPlace → TurnTo d sender hw buf k (turned s.discovery s.clock NoRoom) buf'
      turn_full f = said NoRoom (go (leb 16 (length buf)) (sym w.is ∙ f))
        where
          go : (b : Bool) → cond {A = Wrote} b Written NoPlace ≡ NoPlace → NoRoom ≡ cond b Solicited NoRoom
          go true z = cc
          go false z = refl

pub down : (up : Bool) (source : Option Ipv6Addr) → up ≡ false → sender_of up source ≡ None
down up source e = simp e

pub nowhere : (up : Bool) (source : Option Ipv6Addr) → source ≡ None → sender_of up source ≡ None
nowhere true source e = e
nowhere false source e = refl

pub somewhere : (up : Bool) (source : Option Ipv6Addr) (a : Ipv6Addr) → up ≡ true → source ≡ Some a → sender_of up source ≡ Some a
somewhere up source a e f = simp e f

-- The sync's turn: whether it is due is asked before the turn's discovery is stored, and does not look at it

module _ (s : Slaac) (d : Discovery) (t : IfaceAddrs) (r : Routes) (iface : ℕ) (hw : HardwareAddress) (now : Instant) (k : Clock) (a : Result PollAnswer Refusal)
    (x : Answer) (e : x ≡ sync_due s k) where
  asked : x ≡ sync_due (with_discovery s d) k
  unfolding sync_due
  asked = e

  answered : (b : Bool) → x.expired ≡ b → (sync_due (with_discovery s d) k).expired ≡ b
  answered b h = ap (λ (z : Answer). z.expired) (sym asked) ∙ h

  pub sync_due_lem : (s' : Slaac) (t' : IfaceAddrs) (r' : Routes) → x.expired ≡ true → s' ≡ leave_expired now (with_discovery s d)
      → t' ≡ sync_addrs hw now t (with_discovery s d) → r' ≡ sync_routes iface now r (with_discovery s d)
      → polled s' t' r' x.clock a ≡ sync_turn (with_discovery s d) t r iface hw now k a
  unfolding sync_turn
  sync_due_lem s' t' r' h f g l = simp (answered true h) (λ i. polled (f i) (g i) (l i) (asked i).clock a)

  pub sync_idle : x.expired ≡ false → polled (with_discovery s d) t r x.clock a ≡ sync_turn (with_discovery s d) t r iface hw now k a
  unfolding sync_turn
  sync_idle h = simp (answered false h) (ap (λ (z : Answer). polled (with_discovery s d) t r z.clock a) asked)

-- The poll

pub on_yes : {A : Type 0} (b : Bool) (x y p : A) → b ≡ true → p ≡ x → p ≡ cond b x y
on_yes b x y p e f = simp e f

pub on_no : {A : Type 0} (b : Bool) (x y p : A) → b ≡ false → p ≡ y → p ≡ cond b x y
on_no b x y p e f = simp e f

module _ (s : Slaac) (t : IfaceAddrs) (r : Routes) (iface : ℕ) (up : Bool) (hw : HardwareAddress) (buf : List ℕ) (k : Clock) where
  module _ (e : time_check k.now iface ≡ Ok tt) where
    -- by the checks, what is left of the promise
    fine : (p : PolledAt) (buf' : List ℕ) → p ≡ poll_by (Ok tt) s t r iface up hw buf k → poll_number p.polled.answer ≡ 0
        → poll_sent p.polled.answer buf' ≡ poll_message (Ok tt) s t up hw buf k → buf' ≡ poll_buffer (Ok tt) s t up hw buf k
        → PolledTo s t r iface up hw buf k p buf'
    fine p buf' f n m g =
        record {
          is = f ∙ ap (λ (c : Result (Unit {0}) Refusal). poll_by c s t r iface up hw buf k) (sym e);
          number = n ∙ ap check_number (sym e);
          sends = m ∙ ap (λ (c : Result (Unit {0}) Refusal). poll_message c s t up hw buf k) (sym e);
          leaves = g ∙ ap (λ (c : Result (Unit {0}) Refusal). poll_buffer c s t up hw buf k) (sym e);
        }

    pub poll_on_lem : (source : Option Ipv6Addr) (u : Turn) (p : PolledAt) (buf' : List ℕ) → s.on ≡ true → source ≡ first_local (addrs_of t)
        → TurnTo s.discovery (sender_of up source) hw buf k u buf' → p.polled.answer ≡ Ok u.answer → p ≡ after_turn u s t r iface hw k.now
        → PolledTo s t r iface up hw buf k p buf'
    unfolding poll_on
    poll_on_lem source u p buf' o f w n g =
        let same : u ≡ turn_of s.discovery (sender_in up t) buf k =
        w.is ∙ ap (λ (z : Option Ipv6Addr). turn_of s.discovery (sender_of up z) buf k) f in
        let left : buf' ≡ buffer_of s.discovery (sender_in up t) hw buf k =
        w.leaves ∙ ap (λ (z : Option Ipv6Addr). buffer_of s.discovery (sender_of up z) hw buf k) f in
        fine p buf'
        (on_yes s.on (poll_on s t r iface up hw buf k) (polled s t r k (Ok Off)) p o (g ∙ ap (λ (z : Turn). after_turn z s t r iface hw k.now) same))
        (ap poll_number n ∙ w.number)
        (on_yes s.on (sent_of s.discovery (sender_in up t) hw buf k) [] (poll_sent p.polled.answer buf') o
        (ap (λ (x : Result PollAnswer Refusal). poll_sent x buf') n ∙ (w.sends ∙ ap (λ (z : Option Ipv6Addr). sent_of s.discovery (sender_of up z) hw buf k) f)))
        (on_yes s.on (buffer_of s.discovery (sender_in up t) hw buf k) buf buf' o left)
