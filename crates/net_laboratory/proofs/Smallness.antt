-- The links of nodes that the commands of a sound scenario name have small numbers.
use Rattle.std.proofs.Common.{◌≡◌, ℕ, ◌≤◌, ◌<◌, ◌^◌, inl, inr, true, false, List, [], ◌∷◌, ◌++◌, length, refl, sym, ◌∙◌, ap, arith}
use Rattle.std.specs.Prelude.{All}
use Rattle.std.specs.Option.{option_map_or}
use Rattle.std.proofs.lemmas.Bool.{false≢true, and_parts, cases_lt, lt-ltb}
use Rattle.std.proofs.lemmas.Option.{slice_get_past}
use Rattle.std.proofs.lemmas.List.Elements.{All-nil, All-cons}
use Rattle.net_laboratory.specs.declared.command.Command.{Command}
use Rattle.net_laboratory.specs.declared.command.Command.TheVariants.{Settle, Tick, Set, Own, Disown, Sync, Restart, Up, Down, Script, Get, Drain, LinkDrain, Metric, Advertise, Withdraw, Aggregate, Ask}
use Rattle.net_laboratory.specs.declared.declared.LinkDecl.{LinkDecl}
use Rattle.net_laboratory.specs.Scenario.{Laboratory, is_end, is_end_of}
use Rattle.net_laboratory.specs.Limits.{most_links}
use Rattle.net_laboratory.specs.Amounts.{is_settle}
use Rattle.net_laboratory.specs.Sound.{Declarations, has_sound_fields, admits_command, end_in_settle, declared_in, is_sound}
use Rattle.net_laboratory.specs.Small.{names_small_link, NamesSmallLink}
use Rattle.net_laboratory.proofs.Room.{first_of, few_links}

-- a link that a node is an end of is declared
end_below : (links : List LinkDecl) (name : List ℕ) (number : ℕ) → is_end_of links name number ≡ true → number < length links
end_below links name number h =
    elim (cases_lt number (length links)) [
      | inl within ↦ within
      | inr past ↦ absurd (false≢true (ap (λ o. option_map_or (is_end name) o false) (sym (slice_get_past links number past)) ∙ h))
    ]

small_end : (d : Declarations) (name : List ℕ) (number : ℕ) → length d.links ≤ most_links → is_end_of d.links name number ≡ true → names_small_link (Sync name number) ≡ true
small_end d name number few h = let below = end_below d.links name number h in lt-ltb number (2 ^ 31) (omega (arith, few, below))

within_small : (d : Declarations) (c : Command) → length d.links ≤ most_links → has_sound_fields d c ≡ true → names_small_link c ≡ true
unfolding has_sound_fields
within_small d (Sync node link) few h = small_end d node link few (and_parts _ (is_end_of d.links node link) h).1
within_small d (LinkDrain node link on) few h = small_end d node link few (and_parts _ (is_end_of d.links node link) h).1
within_small d (Metric node link metric) few h = small_end d node link few (and_parts _ (is_end_of d.links node link) (first_of _ h)).1
within_small d (Settle rounds show) few h = refl
within_small d (Tick to) few h = refl
within_small d (Set node pair) few h = refl
within_small d (Own node key value ttl) few h = refl
within_small d (Disown node key) few h = refl
within_small d (Restart node) few h = refl
within_small d (Up link) few h = refl
within_small d (Down link) few h = refl
within_small d (Script link from acts) few h = refl
within_small d (Get node key) few h = refl
within_small d (Drain node on) few h = refl
within_small d (Advertise node entry) few h = refl
within_small d (Withdraw node prefix) few h = refl
within_small d (Aggregate node prefix min) few h = refl
within_small d (Ask node prefix) few h = refl

admitted_small : (d : Declarations) (before : List Command) (c : Command) → length d.links ≤ most_links → admits_command d before c ≡ true → names_small_link c ≡ true
unfolding admits_command
admitted_small d before c few h = within_small d c few (first_of _ (first_of _ (first_of _ (first_of _ (first_of _ h)))))

settle_small : (c : Command) → is_settle c ≡ true → names_small_link c ≡ true
settle_small (Settle rounds show) h = refl
settle_small _ h = absurd (false≢true h)

closed_small : (d : Declarations) (before commands : List Command) → length d.links ≤ most_links → end_in_settle d before commands ≡ true → All NamesSmallLink commands
closed_small d before [] few h = All-nil NamesSmallLink
closed_small d before (c ∷ []) few h = All-cons NamesSmallLink c [] (settle_small c (first_of _ h)) (All-nil NamesSmallLink)
closed_small d before (c ∷ next ∷ commands) few h =
    let parts = and_parts (admits_command d before c) (end_in_settle d (before ++ c ∷ []) (next ∷ commands)) h in
    All-cons NamesSmallLink c (next ∷ commands) (admitted_small d before c few parts.0) (closed_small d (before ++ c ∷ []) (next ∷ commands) few parts.1)

pub small_commands : (lab : Laboratory) → is_sound lab ≡ true → All NamesSmallLink lab.commands
unfolding is_sound
small_commands lab sound = closed_small (declared_in lab) [] lab.commands (few_links lab sound) (and_parts _ (end_in_settle (declared_in lab) [] lab.commands) (first_of _ sound)).1
