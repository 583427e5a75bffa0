-- An answer that was written whole, from how its bytes were read.
use Rattle.std.proofs.Common.{◌≡◌, inl, inr, ◌⊎◌, ℕ, ◌≤◌, List, [], ◌++◌, length, Option, Some, None, true, sym, ap, ◌∙◌, subst, arith}
use Rattle.std.proofs.lemmas.List.{append-nil}
use Rattle.lab_words.specs.declared.words.Mode.TheVariants.{Replay}
use Rattle.lab_words.specs.declared.words.Words.{Words}
use Rattle.openr_lab.specs.declared.answer.Answer.{Answer}
use Rattle.openr_lab.specs.Streams.{read_limit, ReadWhole, WroteWhole}
use Rattle.openr_lab.specs.Answer.{answer_to}
use Rattle.openr_lab.specs.Ends.{ReadToEnd, Answered}

-- bytes that are no more than a scenario's are all that was left
all_read : (left left' : Option (List ℕ)) (bytes : List ℕ) → ReadWhole read_limit left left' bytes → length bytes ≤ 33554432 → ReadToEnd left left' bytes
all_read None left' bytes read small = read
all_read (Some all) left' bytes read small = by_end read.0 read.1 read.2 read.3 where
  by_end : (rest : List ℕ) → left' ≡ Some rest → bytes ++ rest ≡ all → (rest ≡ []) ⊎ (length bytes ≡ read_limit) → (left' ≡ Some []) × (bytes ≡ all)
  by_end rest after whole (inl none) = (after ∙ ap Some none, sym (append-nil bytes) ∙ ap (λ r. bytes ++ r) (sym none) ∙ whole)
  by_end rest after whole (inr full) = absurd (omega (arith, small, full))

-- unless the bytes are no scenario
all_read_or_refused : (left left' : Option (List ℕ)) (bytes : List ℕ) (status : ℕ) → ReadWhole read_limit left left' bytes → (status ≡ 3) ⊎ (length bytes ≤ 33554432)
    → (status ≡ 3) ⊎ ReadToEnd left left' bytes
all_read_or_refused left left' bytes status read (inl refused) = inl refused
all_read_or_refused left left' bytes status read (inr small) = inr (all_read left left' bytes read small)

pub answered_read : (words : Words) (left left' taken taken' : Option (List ℕ)) (bytes : List ℕ) (answer : Answer)
    → words.mode ≡ Replay → ReadWhole read_limit left left' bytes → (answer.status ≡ 3) ⊎ (length bytes ≤ 33554432)
    → answer ≡ answer_to words bytes → WroteWhole taken taken' answer.text → Answered words left left' taken taken' answer.status answer.run
answered_read words left left' taken taken' bytes answer replays read small is written = inl (record {
  replays = replays;
  bytes = bytes;
  read = read;
  to_end = all_read_or_refused left left' bytes answer.status read small;
  answer = ap (λ (a : Answer). a.status) is;
  written = subst (WroteWhole taken taken') (ap (λ (a : Answer). a.text) is) written;
  recorded = ap (λ (a : Answer). a.run) is;
})
