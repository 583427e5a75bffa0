-- What a journal holds it merged.
use Rattle.std.proofs.Common.{ℕ, List, [], ◌∷◌, Option, Some, None, IfSome, refl, subst, reverse, take, drop}
use Rattle.std.specs.Str.{bytes_eq}
use Rattle.std.specs.List.{Contains}
use Rattle.std.proofs.lemmas.Bool.{cond_both}
use Rattle.std.proofs.lemmas.Option.{IfSome_then}
use Rattle.std.proofs.lemmas.List.{take-append-drop}
use Rattle.std.proofs.lemmas.List.Elements.{All-contains, All-contains_itself, Contains-append_left}
use Rattle.or_base.specs.declared.value.KvValue.{KvValue}
use Rattle.or_base.specs.declared.entry.JournalEntry.{JournalEntry}
use Rattle.or_base.specs.declared.entry.JournalEntry.TheVariants.{Merged, Expired, Cleared}
use Rattle.or_base.specs.Journal.{latest, holds, held_value}
use Rattle.or_base.proofs.Members.{Contains-first, Contains-later}
use Rattle.kv_agree.specs.Agreement.{HasMerged}
use Rattle.kv_agree.proofs.Lists.{all_reversed}
use Rattle.kv_agree.proofs.Order.{value_in}

merged_among : (part whole : List JournalEntry) (v : KvValue) → ((entry : JournalEntry) → Contains part entry → Contains whole entry) → HasMerged part v → HasMerged whole v
merged_among part whole v within m =
    record { pair = m.pair; at = m.at; origin = m.origin; among = within (Merged m.pair m.at m.origin) m.among; value = m.value }

-- the entries merged what is held, if something is
abbrev IsMergedBy : List JournalEntry → Option (KvValue × ℕ) → Type 0
IsMergedBy entries held = IfSome held (λ h. HasMerged entries h.0)

merged_later : (entry : JournalEntry) (older : List JournalEntry) (held : Option (KvValue × ℕ)) → IsMergedBy older held → IsMergedBy (entry ∷ older) held
merged_later entry older held merged = IfSome_then held merged (λ h m. merged_among older (entry ∷ older) h.0 (Contains-later entry older) m)

latest_merged : (entries : List JournalEntry) (key : List ℕ) → IsMergedBy entries (latest entries key)
latest_merged [] key = tt
latest_merged (Merged pair at origin ∷ older) key =
    cond_both (bytes_eq pair.key key) (Some (pair.value, at)) (latest older key) (IsMergedBy (Merged pair at origin ∷ older))
    (λ named. record { pair = pair; at = at; origin = origin; among = Contains-first (Merged pair at origin) older; value = refl })
    (λ other. merged_later (Merged pair at origin) older (latest older key) (latest_merged older key))
latest_merged (Expired name at ∷ older) key =
    cond_both (bytes_eq name key) None (latest older key) (IsMergedBy (Expired name at ∷ older))
    (λ named. tt)
    (λ other. merged_later (Expired name at) older (latest older key) (latest_merged older key))
latest_merged (Cleared at ∷ older) key = tt

-- the first entries of a journal, from the newest on, are among all of it
within_first : (journal : List JournalEntry) (n : ℕ) (entry : JournalEntry) → Contains (reverse (take n journal)) entry → Contains journal entry
within_first journal n entry among =
    let first = take n journal in
    subst (λ entries. Contains entries entry) (take-append-drop n journal)
    (Contains-append_left first (drop n journal) entry
    (All-contains (Contains first) (reverse first) entry (all_reversed (Contains first) first (All-contains_itself first)) among))

value_if_held : (P : KvValue → Type 0) (held : Option (KvValue × ℕ)) → IfSome held (λ h. P h.0) → IfSome (value_in held) P
value_if_held P None merged = tt
value_if_held P (Some h) merged = merged

-- what was held after a journal's first entries, the journal merged
pub held_was_merged : (journal : List JournalEntry) (n : ℕ) (key : List ℕ) → IfSome (held_value (take n journal) key) (HasMerged journal)
held_was_merged journal n key =
    value_if_held (HasMerged journal) (holds (take n journal) key)
    (IfSome_then (holds (take n journal) key) (latest_merged (reverse (take n journal)) key)
    (λ h m. merged_among (reverse (take n journal)) journal h.0 (within_first journal n) m))
