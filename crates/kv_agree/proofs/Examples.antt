-- The definitions on a small case, a full sync between two stores that hold a key each: it meets the law's premises.
use Rattle.std.proofs.Common.{◌≡◌, ℕ, List, [], ◌∷◌, Some, None, ◌⊎◌, inl, inr, refl, sym, ◌∙◌, ap, arith}
use Rattle.or_base.specs.declared.value.KvValue.{KvValue}
use Rattle.or_base.specs.declared.value.Pair.{Pair}
use Rattle.or_base.specs.declared.origin.Origin.{Origin}
use Rattle.or_base.specs.declared.origin.Origin.TheVariants.{Local, SyncReply, SyncPush}
use Rattle.or_base.specs.declared.entry.JournalEntry.{JournalEntry}
use Rattle.or_base.specs.declared.entry.JournalEntry.TheVariants.{Merged}
use Rattle.or_base.specs.Limits.{is_valid_pair, is_valid_value, is_key, is_node_name}
use Rattle.or_base.specs.Order.{value_cmp}
use Rattle.or_base.proofs.Members.{Contains-first, Contains-cases}
use Rattle.kv_value.specs.Sending.{sent_ttl}
use Rattle.kv_table.specs.Digest.{digest}
use Rattle.kv_table.specs.Sending.{withheld_count}
use Rattle.kv_sync.specs.Difference.{better_keys, wanted_keys}
use Rattle.kv_agree.proofs.Agreeing.{exchanges_agree}
use Rattle.kv_agree.specs.Agreement.{Agree, HasMerged, AreToldApart, NoCollision}
use Rattle.kv_agree.specs.Exchange.{IsMade, Exchange, reply_pairs, push_pairs, reply_withheld, push_withheld, HasReplied, HasPushed, IsUndisturbed}

-- the starter's pair with its lifetime, and with what is left of it in the push
abbrev pub a_kept : Pair
a_kept = record { key = 97 ∷ []; value = record { version = 1; originator = 120 ∷ []; value = 1 ∷ []; ttl = Some 100; ttl_version = 0 } }

abbrev pub a_sent : Pair
a_sent = record { key = 97 ∷ []; value = record { version = 1; originator = 120 ∷ []; value = 1 ∷ []; ttl = Some 93; ttl_version = 0 } }

abbrev pub b_kept : Pair
b_kept = record { key = 98 ∷ []; value = record { version = 4; originator = 121 ∷ []; value = 2 ∷ []; ttl = None; ttl_version = 0 } }

-- the journals after the full sync
abbrev pub starter : List JournalEntry
starter = Merged a_kept 0 Local ∷ Merged b_kept 6 SyncReply ∷ []

abbrev pub peer : List JournalEntry
peer = Merged b_kept 2 Local ∷ Merged a_sent 8 SyncPush ∷ []

abbrev pub exchange : Exchange
exchange = record { a0 = 1; b0 = 1; a1 = 2; reply_moment = 5; push_moment = 6 }

pub reply_pairs-example : reply_pairs starter peer exchange ≡ b_kept ∷ []
unfolding digest better_keys sent_ttl
reply_pairs-example = refl

pub push_pairs-example : push_pairs starter peer exchange ≡ a_sent ∷ []
unfolding digest wanted_keys sent_ttl
push_pairs-example = refl

pub withheld-example : (reply_withheld starter peer exchange ≡ 0) × (push_withheld starter peer exchange ≡ 0)
unfolding digest better_keys wanted_keys sent_ttl withheld_count
withheld-example = (refl, refl)

pub made-example : IsMade starter × IsMade peer
unfolding is_valid_pair is_valid_value is_key is_node_name
made-example = ((refl, refl, (refl, refl, tt)), (refl, refl, (refl, refl, tt)))

pub replied-example : HasReplied starter peer exchange
unfolding digest better_keys sent_ttl value_cmp
replied-example = record { after = omega arith; starter = omega arith; peer = omega arith; covered = (refl, tt) }

pub pushed-example : HasPushed starter peer exchange
unfolding digest wanted_keys sent_ttl value_cmp
pushed-example = record { b1 = 2; after = omega arith; within = omega arith; covered = (refl, tt) }

pub undisturbed-example : IsUndisturbed starter peer exchange
unfolding digest better_keys wanted_keys sent_ttl
undisturbed-example = record { whole = refl; starter = (Contains-first b_kept [], tt); peer = (Contains-first a_sent [], tt) }

merged_pair : {p q : Pair} {at until : ℕ} {o r : Origin} → Merged p at o ≡ Merged q until r → p ≡ q
merged_pair same = cc

pub one_of_two : (p q : Pair) (at until : ℕ) (o r : Origin) (v : KvValue) → HasMerged (Merged p at o ∷ Merged q until r ∷ []) v → (p.value ≡ v) ⊎ (q.value ≡ v)
one_of_two p q at until o r v m =
    elim (Contains-cases (Merged p at o) (Merged q until r ∷ []) (Merged m.pair m.at m.origin) m.among) [
      | inl first ↦ inl (ap (λ pair. pair.value) (merged_pair first) ∙ m.value)
      | inr later ↦ elim (Contains-cases (Merged q until r) [] (Merged m.pair m.at m.origin) later) [
        | inl second ↦ inr (ap (λ pair. pair.value) (merged_pair second) ∙ m.value)
        | inr none ↦ absurd (omega (arith, none.1))
      ]
    ]

-- values of different versions are told apart, and so are those with the same bytes
pub no_collision-example : NoCollision starter peer
no_collision-example v w m n =
    by_values (one_of_two a_kept b_kept 0 6 Local SyncReply v m) (one_of_two b_kept a_sent 2 8 Local SyncPush w n) where
      by_values : (a_kept.value ≡ v) ⊎ (b_kept.value ≡ v) → (b_kept.value ≡ w) ⊎ (a_sent.value ≡ w) → AreToldApart v w
      by_values (inl e) (inl f) = λ version _ _. absurd (omega (arith, ap (λ x. x.version) e ∙ version ∙ ap (λ x. x.version) (sym f)))
      by_values (inl e) (inr f) = λ _ _ _. ap (λ x. x.value) (sym e) ∙ ap (λ x. x.value) f
      by_values (inr e) (inl f) = λ _ _ _. ap (λ x. x.value) (sym e) ∙ ap (λ x. x.value) f
      by_values (inr e) (inr f) = λ version _ _. absurd (omega (arith, ap (λ x. x.version) e ∙ version ∙ ap (λ x. x.version) (sym f)))

pub agree-example : Agree starter peer
agree-example =
    exchanges_agree starter peer exchange made-example.0 made-example.1 no_collision-example replied-example pushed-example withheld-example.0 withheld-example.1 undisturbed-example
