-- Messages of Sparks don't count between two stores: they stay paired, whatever of these comes on its way.
use Rattle.std.proofs.Common.{◌≡◌, ℕ, [], ◌∷◌, Option, Some, None, Bool, true, false, inl, inr, if◌then◌else◌, refl, sym, ap, ◌∙◌, subst, arith}
use Rattle.std.specs.List.{Contains}
use Rattle.std.proofs.lemmas.Bool.{false≢true}
use Rattle.or_base.specs.declared.message.Msg.{Msg}
use Rattle.or_base.specs.declared.message.Msg.TheVariants.{Dump, Reply, Push, Ack}
use Rattle.or_base.specs.declared.session.SyncDone.{SyncDone}
use Rattle.or_base.proofs.Members.{Contains-cases, Contains-first, Contains-later}
use Rattle.kv_sync.specs.declared.session.Session.{Session}
use Rattle.kv_sync.specs.declared.session.SyncPhase.{SyncPhase}
use Rattle.kv_sync.specs.declared.session.SyncPhase.TheVariants.{Dumped, Pushed}
use Rattle.kv_sync.specs.Sessions.{session_on}
use Rattle.kv_agree.specs.Exchange.{Exchange}
use Rattle.kv_agree.specs.Traced.{Trace, TracedStore, trace_of}
use Rattle.kv_agree.specs.Orderly.{CarryValid}
use Rattle.kv_agree.specs.Paired.{OnWay, IsExchanged, IsInPhase, IsRunning, IsFinishedOn, IsPaired}
use Rattle.kv_agree.proofs.Lists.{all_wider}
use Rattle.net_agree.proofs.Sparks.{is_of_spark}

-- the messages of stores among these
abbrev pub of_stores : OnWay → OnWay
of_stores [] = []
of_stores (m ∷ ms) = if is_of_spark m then of_stores ms else m ∷ of_stores ms

-- each message of stores among the first is among the second
abbrev pub IsLess : OnWay → OnWay → Type 0
IsLess way other = (msg : Msg) → is_of_spark msg ≡ false → Contains way msg → Contains other msg

kept_one : (m : Msg) (ms : OnWay) (msg : Msg) (test : Bool) → is_of_spark m ≡ test → (Contains (of_stores ms) msg → Contains ms msg × (is_of_spark msg ≡ false))
    → Contains (if test then of_stores ms else m ∷ of_stores ms) msg → Contains (m ∷ ms) msg × (is_of_spark msg ≡ false)
kept_one m ms msg true e later h = (Contains-later m ms msg (later h).0, (later h).1)
kept_one m ms msg false e later h =
    elim (Contains-cases m (of_stores ms) msg h) [
      | inl same ↦ (subst (Contains (m ∷ ms)) same (Contains-first m ms), sym (ap is_of_spark same) ∙ e)
      | inr there ↦ (Contains-later m ms msg (later there).0, (later there).1)
    ]

pub kept_is : (ms : OnWay) (msg : Msg) → Contains (of_stores ms) msg → Contains ms msg × (is_of_spark msg ≡ false)
kept_is [] msg h = absurd (omega (arith, h.1))
kept_is (m ∷ ms) msg h = kept_one m ms msg (is_of_spark m) refl (kept_is ms msg) h

keeps_one : (m : Msg) (ms : OnWay) (msg : Msg) (test : Bool) → is_of_spark m ≡ test → is_of_spark msg ≡ false → (Contains ms msg → Contains (of_stores ms) msg)
    → Contains (m ∷ ms) msg → Contains (if test then of_stores ms else m ∷ of_stores ms) msg
keeps_one m ms msg true e stores later h =
    elim (Contains-cases m ms msg h) [
      | inl same ↦ absurd (false≢true (sym stores ∙ sym (ap is_of_spark same) ∙ e))
      | inr there ↦ later there
    ]
keeps_one m ms msg false e stores later h =
    elim (Contains-cases m ms msg h) [
      | inl same ↦ subst (Contains (m ∷ of_stores ms)) same (Contains-first m (of_stores ms))
      | inr there ↦ Contains-later m (of_stores ms) msg (later there)
    ]

pub keeps : (ms : OnWay) → IsLess ms (of_stores ms)
keeps [] msg stores h = h
keeps (m ∷ ms) msg stores h = keeps_one m ms msg (is_of_spark m) refl stores (keeps ms msg stores) h

-- ---- fewer messages of stores

less_valid : (way other : OnWay) → IsLess other way → CarryValid way → CarryValid other
less_valid way other less valid = record {
  replies = λ n b0 pairs wanted withheld there. valid.replies n b0 pairs wanted withheld (less (Reply n b0 pairs wanted withheld) refl there);
  pushes = λ n pairs there. valid.pushes n pairs (less (Push n pairs) refl there);
}

module _ (link : ℕ) (a b : Trace) (out back out_after back_after : OnWay) (less_out : IsLess out_after out) (less_back : IsLess back_after back) where
  less_exchanged : (number : ℕ) (x : Exchange) → IsExchanged link number a b out x → IsExchanged link number a b out_after x
  less_exchanged number x e = record {
    replied = e.replied;
    pushes = λ pairs there. e.pushes pairs (less_out (Push number pairs) refl there);
    of_reply = e.of_reply;
    once = e.once;
    of_push = e.of_push;
  }

  less_phase : (phase : SyncPhase) (s : Session) → IsInPhase phase link s a b out back → IsInPhase phase link s a b out_after back_after
  less_phase Dumped s d = record {
    started = d.started;
    dumps = λ rows there. d.dumps rows (less_out (Dump s.number rows) refl there);
    replies = λ b0 pairs wanted withheld there. d.replies b0 pairs wanted withheld (less_back (Reply s.number b0 pairs wanted withheld) refl there);
    no_push = λ pairs there. d.no_push pairs (less_out (Push s.number pairs) refl there);
    no_ack = λ there. d.no_ack (less_back (Ack s.number) refl there);
    no_reply_taken = d.no_reply_taken;
    no_push_taken = d.no_push_taken;
  }
  less_phase Pushed s p = record {
    x = p.x;
    a0 = p.a0;
    b0 = p.b0;
    exchanged = less_exchanged s.number p.x p.exchanged;
    withheld = p.withheld;
    acks = λ there. p.acks (less_back (Ack s.number) refl there);
  }

  less_running : (running : Option Session) → IsRunning link running a b out back → IsRunning link running a b out_after back_after
  less_running None r = tt
  less_running (Some s) r = less_phase s.phase s r

  less_finished : (running : Option Session) (d : SyncDone) → IsFinishedOn link running a b out d → IsFinishedOn link running a b out_after d
  less_finished running d f = record {
    finished = λ here.
        let was = f.finished here in
        record { x = was.x; a0 = was.a0; b0 = was.b0; exchanged = less_exchanged d.session was.x was.exchanged; withheld = was.withheld; pushed = was.pushed };
    below = f.below;
  }

-- two stores stay paired where no message of stores comes on its way
pub fewer_of_stores : (link : ℕ) (a b : TracedStore) (out back out_after back_after : OnWay) → IsLess out_after out → IsLess back_after back
    → IsPaired link a b out back → IsPaired link a b out_after back_after
fewer_of_stores link a b out back out_after back_after less_out less_back p =
    let running = session_on a.store.sessions link in
    record {
      starter = p.starter;
      peer = p.peer;
      made_a = p.made_a;
      made_b = p.made_b;
      valid_out = less_valid out out_after less_out p.valid_out;
      valid_back = less_valid back back_after less_back p.valid_back;
      numbered = p.numbered;
      given = record {
        dumps = λ n rows there. p.given.dumps n rows (less_out (Dump n rows) refl there);
        pushes = λ n pairs there. p.given.pushes n pairs (less_out (Push n pairs) refl there);
        replies = λ n b0 pairs wanted withheld there. p.given.replies n b0 pairs wanted withheld (less_back (Reply n b0 pairs wanted withheld) refl there);
        acks = λ n there. p.given.acks n (less_back (Ack n) refl there);
        replies_taken = p.given.replies_taken;
        pushes_taken = p.given.pushes_taken;
        finished = p.given.finished;
      };
      running = less_running link (trace_of a) (trace_of b) out back out_after back_after less_out less_back running p.running;
      finished =
          all_wider (IsFinishedOn link running (trace_of a) (trace_of b) out) (IsFinishedOn link running (trace_of a) (trace_of b) out_after)
          (less_finished link (trace_of a) (trace_of b) out back out_after back_after less_out less_back running) a.store.done p.finished;
    }
