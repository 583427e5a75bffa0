-- Full syncs that are started with one peer after another.
use Rattle.std.proofs.Common.{◌≡◌, ℕ, List, ◌∷◌, ◌++◌, sym, ◌∙◌, ap, append_assoc}
use Rattle.or_base.specs.declared.entry.JournalEntry.{JournalEntry}
use Rattle.or_actor.specs.declared.output.Output.{Output}
use Rattle.kv_sync.specs.Sessions.{SessionsState}
use Rattle.kv_store.specs.Store.{start_with, start_each}

-- one peer more
pub running_more : (me : List ℕ) (journal : List JournalEntry) (sessions next after : SessionsState) (p : ℕ × List ℕ) (left rest : List (ℕ × List ℕ))
    → left ≡ p ∷ rest → next ≡ (start_with me journal sessions p).0 → (start_each me journal sessions left).0 ≡ after → (start_each me journal next rest).0 ≡ after
running_more me journal sessions next after p left rest e is h =
    ap (λ s. (start_each me journal s rest).0) is ∙ sym (ap (λ ps. (start_each me journal sessions ps).0) e) ∙ h

pub sent_more : (me : List ℕ) (journal : List JournalEntry) (sessions next : SessionsState) (p : ℕ × List ℕ) (left rest : List (ℕ × List ℕ)) (out after all : List Output)
    → left ≡ p ∷ rest → next ≡ (start_with me journal sessions p).0 → after ≡ out ++ (start_with me journal sessions p).1 → out ++ (start_each me journal sessions left).1 ≡ all
    → after ++ (start_each me journal next rest).1 ≡ all
sent_more me journal sessions next p left rest out after all e is sent h =
    ap (λ s. after ++ (start_each me journal s rest).1) is
    ∙ ap (λ os. os ++ (start_each me journal (start_with me journal sessions p).0 rest).1) sent
    ∙ append_assoc out (start_with me journal sessions p).1 (start_each me journal (start_with me journal sessions p).0 rest).1
    ∙ sym (ap (λ ps. out ++ (start_each me journal sessions ps).1) e) ∙ h
