-- What a turn of a store sends over one link.
use Rattle.std.proofs.Common.{◌≡◌, ◌≢◌, ℕ, ◌+◌, ◌-◌, ◌^◌, ◌<◌, ◌≤◌, List, [], ◌∷◌, ◌++◌, length, map, Bool, true, false, Option, Some, None, ◌⊎◌, inl, inr, refl, sym, ◌∙◌, ap, subst, arith}
use Rattle.std.specs.List.{Contains}
use Rattle.std.proofs.lemmas.Bool.{cases_eq}
use Rattle.std.proofs.lemmas.List.Elements.{Contains-append_cases}
use Rattle.or_base.specs.declared.digest.DigestRow.{DigestRow}
use Rattle.or_base.specs.declared.entry.JournalEntry.{JournalEntry}
use Rattle.or_base.specs.declared.kind.Kind.{Kind}
use Rattle.or_base.specs.declared.kind.Kind.TheVariants.{Stores, Full}
use Rattle.or_base.specs.declared.message.Msg.{Msg}
use Rattle.or_base.specs.declared.message.Msg.TheVariants.{Dump, Reply, Push, Ack, Hello, Handshake, Heartbeat, Flood}
use Rattle.or_base.specs.declared.item.Item.TheVariants.{Net, Entry}
use Rattle.or_base.specs.ByLink.{at_link, with_link}
use Rattle.or_base.specs.Counting.{saturate}
use Rattle.or_base.proofs.Members.{Contains-cases}
use Rattle.or_actor.specs.declared.output.Output.{Output}
use Rattle.or_actor.specs.declared.output.Output.TheVariants.{To}
use Rattle.or_actor.specs.Ports.{first_link_port, decision_port}
use Rattle.kv_table.specs.Digest.{digest}
use Rattle.kv_table.specs.Sending.{withheld_count}
use Rattle.kv_sync.specs.declared.session.Session.{Session}
use Rattle.kv_sync.specs.declared.session.SyncPhase.TheVariants.{Dumped}
use Rattle.kv_sync.specs.Sessions.{SessionsState, session_on, with_started_session, with_more_withheld}
use Rattle.kv_sync.specs.Messages.{dump_message, reply_message, push_message, ack_message}
use Rattle.kv_sync.proofs.Onward.{at_link-with_link, at_link-with_other}
use Rattle.kv_store.specs.declared.response.Response.{Response}
use Rattle.kv_store.specs.declared.response.Response.TheVariants as response
use Rattle.kv_store.specs.Store.{StoreState, message_on, start_with, start_on, start_each, push_on, respond, floods, entries_told}
use Rattle.kv_agree.proofs.PairedSteps.{IsNewSession, IsNotStarters, IsOldOrDump}
use Rattle.kv_agree.proofs.PairedPeer.{IsNotPeers}

-- each message that is sent over the link is such
abbrev pub SendsOn : ℕ → List ℕ → (Msg → Type 0) → List Output → Type 0
SendsOn link me P sent = (msg : Msg) → Contains sent (To (first_link_port + link) (Net link me msg)) → P msg

pub sends_nothing : (link : ℕ) (me : List ℕ) (P : Msg → Type 0) → SendsOn link me P []
sends_nothing link me P msg there = absurd (omega (arith, there.1))

pub sends_both : (link : ℕ) (me : List ℕ) (P : Msg → Type 0) (xs ys : List Output) → SendsOn link me P xs → SendsOn link me P ys → SendsOn link me P (xs ++ ys)
sends_both link me P xs ys f g msg there =
    elim (Contains-append_cases xs ys (To (first_link_port + link) (Net link me msg)) there) [ inl here ↦ f msg here | inr later ↦ g msg later ]

same_output : (l m p q : ℕ) (me you : List ℕ) (x y : Msg) → To p (Net l me x) ≡ To q (Net m you y) → (l ≡ m) × (x ≡ y)
same_output l m p q me you x y same = (cc, cc)

pub sends_message : (link l : ℕ) (me : List ℕ) (P : Msg → Type 0) (sent : Option Msg) → ((msg : Msg) → l ≡ link → sent ≡ Some msg → P msg) → SendsOn link me P (message_on me l sent)
sends_message link l me P None such msg there = absurd (omega (arith, there.1))
sends_message link l me P (Some x) such msg there =
    elim (Contains-cases (To (first_link_port + l) (Net l me x)) [] (To (first_link_port + link) (Net link me msg)) there) [
      | inl same ↦
          let is = same_output l link (first_link_port + l) (first_link_port + link) me me x msg same in
          such msg is.0 (ap Some is.1)
      | inr later ↦ absurd (omega (arith, later.1))
    ]

pub some_same : {X : Type 0} {x y : X} → Some x ≡ Some y → x ≡ y
some_same same = cc

-- a message of which this holds
pub sends_one : (link l : ℕ) (me : List ℕ) (P : Msg → Type 0) (msg : Msg) → (l ≡ link → P msg) → SendsOn link me P (message_on me l (Some msg))
sends_one link l me P msg holds = sends_message link l me P (Some msg) (λ x here same. subst P (some_same same) (holds here))

-- ---- floods

abbrev pub is_flood : Msg → Bool
is_flood (Flood passed pairs) = true
is_flood (Dump session rows) = false
is_flood (Reply session b0 pairs wanted withheld) = false
is_flood (Push session pairs) = false
is_flood (Ack session) = false
is_flood (Hello iface heard restarting) = false
is_flood (Handshake iface done) = false
is_flood Heartbeat = false

abbrev pub IsFlood : Msg → Type 0
IsFlood msg = is_flood msg ≡ true

pub floods_start_nothing : (msg : Msg) → IsFlood msg → IsNotStarters msg
floods_start_nothing (Flood passed pairs) is = refl
floods_start_nothing (Dump session rows) is = cc
floods_start_nothing (Push session pairs) is = cc
floods_start_nothing _ is = refl

pub floods_answer_nothing : (msg : Msg) → IsFlood msg → IsNotPeers msg
floods_answer_nothing (Flood passed pairs) is = refl
floods_answer_nothing (Reply session b0 pairs wanted withheld) is = cc
floods_answer_nothing (Ack session) is = cc
floods_answer_nothing _ is = refl

-- What a store floods are floods. It is a premise here, since kv_flood's definition says so, on which this crate doesn't stand.
abbrev pub FloodsAreFloods : Type 0
FloodsAreFloods = (link : ℕ) (s : StoreState) (entries : List JournalEntry) (passed : List (List ℕ)) → SendsOn link s.me IsFlood (floods s entries passed)

sends_entries : (link : ℕ) (me : List ℕ) (P : Msg → Type 0) (entries : List JournalEntry) → SendsOn link me P (map (λ entry. To decision_port (Entry entry)) entries)
sends_entries link me P [] msg there = absurd (omega (arith, there.1))
sends_entries link me P (entry ∷ entries) msg there =
    elim (Contains-cases (To decision_port (Entry entry)) (map (λ e. To decision_port (Entry e)) entries) (To (first_link_port + link) (Net link me msg)) there) [
      | inl same ↦ absurd (not_net same)
      | inr later ↦ sends_entries link me P entries msg later
    ] where
      not_net : To decision_port (Entry entry) ≡ To (first_link_port + link) (Net link me msg) → ⊥
      not_net same = cc

sends_told : (link : ℕ) (me : List ℕ) (P : Msg → Type 0) (kind : Kind) (entries : List JournalEntry) → SendsOn link me P (entries_told kind entries)
sends_told link me P Stores entries = sends_nothing link me P
sends_told link me P Full entries = sends_entries link me P entries

-- what follows the response of a turn: floods, and what Decision is told
pub sends_beside : FloodsAreFloods → (link : ℕ) (s : StoreState) (entries : List JournalEntry) (passed : List (List ℕ))
    → SendsOn link s.me IsFlood (floods s entries passed ++ entries_told s.kind entries)
sends_beside flooded link s entries passed =
    sends_both link s.me IsFlood (floods s entries passed) (entries_told s.kind entries) (flooded link s entries passed) (sends_told link s.me IsFlood s.kind entries)

-- ---- full syncs that start

-- what starting full syncs does on one link
pub record Starts (link : ℕ) (me : List ℕ) (journal : List JournalEntry) (before after : SessionsState) (sent : List Output) : Type 0 where
  pub rises : before.last ≤ after.last
  pub running : (session_on after link ≡ session_on before link) ⊎ IsNewSession before.last after.last journal (session_on after link)
  pub sends : SendsOn link me (IsOldOrDump before.last after.last (digest journal)) sent

-- nothing starts, and other messages may be sent
starts_nothing : (link : ℕ) (me : List ℕ) (journal : List JournalEntry) (before after : SessionsState) (sent : List Output) → after.last ≡ before.last
    → session_on after link ≡ session_on before link → SendsOn link me IsNotStarters sent → Starts link me journal before after sent
starts_nothing link me journal before after sent last same sends = record {
  rises = omega (arith, last);
  running = inl same;
  sends = λ msg there. inl (sends msg there);
}

wider_dump : (low last later high : ℕ) (rows : List DigestRow) (msg : Msg) → low ≤ last → later ≤ high → IsOldOrDump last later rows msg → IsOldOrDump low high rows msg
wider_dump low last later high rows msg f g (inl none) = inl none
wider_dump low last later high rows msg f g (inr d) = inr (record { number = d.number; is = d.is; above = omega (arith, f, d.above); upto = omega (arith, g, d.upto) })

wider_session : (low last later high : ℕ) (journal : List JournalEntry) (running : Option Session) → low ≤ last → later ≤ high → IsNewSession last later journal running
    → IsNewSession low high journal running
wider_session low last later high journal running f g new = record {
  session = new.session;
  found = new.found;
  above = omega (arith, f, new.above);
  upto = omega (arith, g, new.upto);
  phase = new.phase;
  a0 = new.a0;
}

starts_then : (link : ℕ) (me : List ℕ) (journal : List JournalEntry) (s t u : SessionsState) (xs ys : List Output) → Starts link me journal s t xs → Starts link me journal t u ys
    → Starts link me journal s u (xs ++ ys)
starts_then link me journal s t u xs ys f g = record {
  rises = omega (arith, f.rises, g.rises);
  running =
      elim g.running [
        | inl same ↦
            elim f.running [
              | inl still ↦ inl (same ∙ still)
              | inr new ↦
                  inr (subst (IsNewSession s.last u.last journal) (sym same)
                  (wider_session s.last s.last t.last u.last journal (session_on t link) (omega arith) g.rises new))
            ]
        | inr new ↦ inr (wider_session s.last t.last u.last u.last journal (session_on u link) f.rises (omega arith) new)
      ];
  sends =
      sends_both link me (IsOldOrDump s.last u.last (digest journal)) xs ys
      (λ msg there. wider_dump s.last s.last t.last u.last (digest journal) msg (omega arith) g.rises (f.sends msg there))
      (λ msg there. wider_dump s.last t.last u.last u.last (digest journal) msg f.rises (omega arith) (g.sends msg there));
}

dump_is : (n : ℕ) (journal : List JournalEntry) → dump_message n journal ≡ Dump n (digest journal)
unfolding dump_message
dump_is n journal = refl

-- a session starts on a link
session_started : (link l : ℕ) (journal : List JournalEntry) (s : SessionsState) (peer : List ℕ) → saturate (s.last + 1) < 2 ^ 64 - 1
    → (session_on (with_started_session s l peer (length journal)) link ≡ session_on s link)
    ⊎ IsNewSession s.last (saturate (s.last + 1)) journal (session_on (with_started_session s l peer (length journal)) link)
unfolding with_started_session
session_started link l journal s peer within =
    let new : Session = record { number = saturate (s.last + 1); peer = peer; a0 = length journal; b0 = 0; withheld = 0; phase = Dumped } in
    elim (cases_eq link l) [
      | inl same ↦
          inr (record {
            session = new;
            found = subst (λ m. at_link (with_link s.running l new) m ≡ Some new) (sym same) (at_link-with_link l new s.running);
            above = omega (arith, within);
            upto = omega arith;
            phase = refl;
            a0 = refl;
          })
      | inr other ↦ inl (at_link-with_other link l new s.running other)
    ]

started_last : (s : SessionsState) (l : ℕ) (peer : List ℕ) (a0 : ℕ) → (with_started_session s l peer a0).last ≡ saturate (s.last + 1)
unfolding with_started_session
started_last s l peer a0 = refl

starts_one : (link : ℕ) (me : List ℕ) (journal : List JournalEntry) (s : SessionsState) (peer : ℕ × List ℕ) → (start_with me journal s peer).0.last < 2 ^ 64 - 1
    → Starts link me journal s (start_with me journal s peer).0 (start_with me journal s peer).1
unfolding start_with
starts_one link me journal s peer within =
    let next = with_started_session s peer.0 peer.1 (length journal) in
    let last = started_last s peer.0 peer.1 (length journal) in
    let above : s.last < next.last = omega (arith, within, last) in
    record {
      rises = omega (arith, above);
      running =
          subst (λ later. (session_on next link ≡ session_on s link) ⊎ IsNewSession s.last later journal (session_on next link)) (sym last)
          (session_started link peer.0 journal s peer.1 (omega (arith, within, last)));
      sends =
          sends_one link peer.0 me (IsOldOrDump s.last next.last (digest journal)) (dump_message next.last journal)
          (λ here. inr (record { number = next.last; is = dump_is next.last journal; above = above; upto = omega arith }));
    }

starts_on : (link l : ℕ) (me : List ℕ) (journal : List JournalEntry) (s : SessionsState) (peer : Option (List ℕ)) → (start_on me journal s l peer).0.last < 2 ^ 64 - 1
    → Starts link me journal s (start_on me journal s l peer).0 (start_on me journal s l peer).1
starts_on link l me journal s None within = starts_nothing link me journal s s [] refl refl (sends_nothing link me IsNotStarters)
starts_on link l me journal s (Some peer) within = starts_one link me journal s (l, peer) within

last_rises : (me : List ℕ) (journal : List JournalEntry) (s : SessionsState) (peers : List (ℕ × List ℕ)) → (start_each me journal s peers).0.last < 2 ^ 64 - 1
    → s.last ≤ (start_each me journal s peers).0.last
unfolding start_with
last_rises me journal s [] within = omega arith
last_rises me journal s (peer ∷ peers) within =
    let later = last_rises me journal (with_started_session s peer.0 peer.1 (length journal)) peers within in
    omega (arith, later, within, started_last s peer.0 peer.1 (length journal))

starts_each : (link : ℕ) (me : List ℕ) (journal : List JournalEntry) (s : SessionsState) (peers : List (ℕ × List ℕ)) → (start_each me journal s peers).0.last < 2 ^ 64 - 1
    → Starts link me journal s (start_each me journal s peers).0 (start_each me journal s peers).1
starts_each link me journal s [] within = starts_nothing link me journal s s [] refl refl (sends_nothing link me IsNotStarters)
starts_each link me journal s (peer ∷ peers) within =
    let first = start_with me journal s peer in
    let others = start_each me journal first.0 peers in
    starts_then link me journal s first.0 others.0 first.1 others.1
    (starts_one link me journal s peer (omega (arith, within, last_rises me journal first.0 peers within))) (starts_each link me journal first.0 peers within)

-- ---- responses

-- a push goes to another link
abbrev pub PushesElsewhere : ℕ → Response → Type 0
PushesElsewhere link response.Nothing = Unit {0}
PushesElsewhere link (response.Start l) = Unit {0}
PushesElsewhere link response.StartAll = Unit {0}
PushesElsewhere link (response.Reply l session rows) = Unit {0}
PushesElsewhere link (response.Push l wanted) = l ≢ link
PushesElsewhere link (response.Ack l session) = Unit {0}

-- a reply or an acknowledgement does
abbrev pub AnswersElsewhere : ℕ → Response → Type 0
AnswersElsewhere link response.Nothing = Unit {0}
AnswersElsewhere link (response.Start l) = Unit {0}
AnswersElsewhere link response.StartAll = Unit {0}
AnswersElsewhere link (response.Reply l session rows) = l ≢ link
AnswersElsewhere link (response.Push l wanted) = Unit {0}
AnswersElsewhere link (response.Ack l session) = l ≢ link

reply_starts_nothing : (journal : List JournalEntry) (now n : ℕ) (rows : List DigestRow) → IsNotStarters (reply_message journal now n rows)
unfolding reply_message
reply_starts_nothing journal now n rows = refl

pushes_elsewhere : (link l : ℕ) (me : List ℕ) (journal : List JournalEntry) (now : ℕ) (s : SessionsState) (wanted : List (List ℕ)) (running : Option Session) → l ≢ link
    → Starts link me journal s (push_on me journal now s l wanted running).0 (push_on me journal now s l wanted running).1
pushes_elsewhere link l me journal now s wanted None other = starts_nothing link me journal s s [] refl refl (sends_nothing link me IsNotStarters)
pushes_elsewhere link l me journal now s wanted (Some u) other =
    let pushed = push_on me journal now s l wanted (Some u) in
    starts_nothing link me journal s pushed.0 pushed.1 refl
    (at_link-with_other link l (with_more_withheld u (withheld_count journal now wanted)) s.running (λ same. other (sym same)))
    (sends_one link l me IsNotStarters (push_message journal now u.number wanted) (λ here. absurd (other here)))

-- what a starter's response does on the link, where it is no push there
pub starter_responds : (link : ℕ) (s : StoreState) (r : Response) → PushesElsewhere link r → (respond s r).0.last < 2 ^ 64 - 1
    → Starts link s.me s.journal s.sessions (respond s r).0 (respond s r).1
unfolding respond
starter_responds link s response.Nothing elsewhere within = starts_nothing link s.me s.journal s.sessions s.sessions [] refl refl (sends_nothing link s.me IsNotStarters)
starter_responds link s (response.Start l) elsewhere within = starts_on link l s.me s.journal s.sessions (at_link s.peers l) within
starter_responds link s response.StartAll elsewhere within = starts_each link s.me s.journal s.sessions s.peers within
starter_responds link s (response.Reply l session rows) elsewhere within =
    let msg = reply_message s.journal s.moment session rows in
    starts_nothing link s.me s.journal s.sessions s.sessions (message_on s.me l (Some msg)) refl refl
    (sends_one link l s.me IsNotStarters msg (λ here. reply_starts_nothing s.journal s.moment session rows))
starter_responds link s (response.Push l wanted) elsewhere within = pushes_elsewhere link l s.me s.journal s.moment s.sessions wanted (session_on s.sessions l) elsewhere
starter_responds link s (response.Ack l session) elsewhere within =
    starts_nothing link s.me s.journal s.sessions s.sessions (message_on s.me l (Some (ack_message session))) refl refl
    (sends_one link l s.me IsNotStarters (ack_message session) (λ here. refl))

dump_answers_nothing : (n : ℕ) (journal : List JournalEntry) → IsNotPeers (dump_message n journal)
unfolding dump_message
dump_answers_nothing n journal = refl

push_answers_nothing : (journal : List JournalEntry) (now n : ℕ) (wanted : List (List ℕ)) → IsNotPeers (push_message journal now n wanted)
unfolding push_message
push_answers_nothing journal now n wanted = refl

quiet_start : (link : ℕ) (me : List ℕ) (journal : List JournalEntry) (s : SessionsState) (peer : ℕ × List ℕ) → SendsOn link me IsNotPeers (start_with me journal s peer).1
unfolding start_with
quiet_start link me journal s peer =
    let last = (with_started_session s peer.0 peer.1 (length journal)).last in
    sends_one link peer.0 me IsNotPeers (dump_message last journal) (λ here. dump_answers_nothing last journal)

quiet_start_on : (link l : ℕ) (me : List ℕ) (journal : List JournalEntry) (s : SessionsState) (peer : Option (List ℕ)) → SendsOn link me IsNotPeers (start_on me journal s l peer).1
quiet_start_on link l me journal s None = sends_nothing link me IsNotPeers
quiet_start_on link l me journal s (Some peer) = quiet_start link me journal s (l, peer)

quiet_start_each : (link : ℕ) (me : List ℕ) (journal : List JournalEntry) (s : SessionsState) (peers : List (ℕ × List ℕ)) → SendsOn link me IsNotPeers (start_each me journal s peers).1
quiet_start_each link me journal s [] = sends_nothing link me IsNotPeers
quiet_start_each link me journal s (peer ∷ peers) =
    let first = start_with me journal s peer in
    sends_both link me IsNotPeers first.1 (start_each me journal first.0 peers).1 (quiet_start link me journal s peer) (quiet_start_each link me journal first.0 peers)

quiet_push : (link l : ℕ) (me : List ℕ) (journal : List JournalEntry) (now : ℕ) (s : SessionsState) (wanted : List (List ℕ)) (running : Option Session)
    → SendsOn link me IsNotPeers (push_on me journal now s l wanted running).1
quiet_push link l me journal now s wanted None = sends_nothing link me IsNotPeers
quiet_push link l me journal now s wanted (Some u) =
    sends_one link l me IsNotPeers (push_message journal now u.number wanted) (λ here. push_answers_nothing journal now u.number wanted)

-- what a peer's response sends over the link, where it answers nothing there
pub peer_responds : (link : ℕ) (s : StoreState) (r : Response) → AnswersElsewhere link r → SendsOn link s.me IsNotPeers (respond s r).1
unfolding respond
peer_responds link s response.Nothing elsewhere = sends_nothing link s.me IsNotPeers
peer_responds link s (response.Start l) elsewhere = quiet_start_on link l s.me s.journal s.sessions (at_link s.peers l)
peer_responds link s response.StartAll elsewhere = quiet_start_each link s.me s.journal s.sessions s.peers
peer_responds link s (response.Reply l session rows) elsewhere =
    sends_one link l s.me IsNotPeers (reply_message s.journal s.moment session rows) (λ here. absurd (elsewhere here))
peer_responds link s (response.Push l wanted) elsewhere = quiet_push link l s.me s.journal s.moment s.sessions wanted (session_on s.sessions l)
peer_responds link s (response.Ack l session) elsewhere = sends_one link l s.me IsNotPeers (ack_message session) (λ here. absurd (elsewhere here))
