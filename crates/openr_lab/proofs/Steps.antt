-- One call more of a source or a sink, and where the calls end.
use Rattle.std.proofs.Common.{◌≡◌, inl, inr, ℕ, ◌+◌, ◌-◌, ◌<◌, ◌≤◌, List, [], ◌++◌, length, take, drop, Option, Some, None, refl, sym, ap, ◌∙◌, subst, append_assoc}
use Rattle.std.proofs.Math.Seq.{take-add}
use Rattle.std.proofs.lemmas.List.{take-append-drop, take_rest, take_all}
use Rattle.or_base.specs.Stream.{ReadsFront, WritesFront}
use Rattle.openr_lab.specs.Streams.{ReadWhole, WroteWhole, WroteFront}

-- these bytes were read from the front of what was left before
abbrev pub ReadSoFar : Option (List ℕ) → Option (List ℕ) → List ℕ → Type 0
ReadSoFar None after bytes = after ≡ None
ReadSoFar (Some left) after bytes = (rest : List ℕ) × (after ≡ Some rest) × (bytes ++ rest ≡ left)

pub read_none : (first : Option (List ℕ)) → ReadSoFar first first []
read_none None = refl
read_none (Some left) = (left, refl, refl)

-- a read adds its bytes to those so far
pub read_more : (first mid last : Option (List ℕ)) (bytes buffer : List ℕ) (count : ℕ)
    → ReadSoFar first mid bytes → ReadsFront mid last count buffer → ReadSoFar first last (bytes ++ take count buffer)
read_more None mid last bytes buffer count so_far step = subst (λ m. ReadsFront m last count buffer) so_far step
read_more (Some left) mid last bytes buffer count so_far step =
    let rest = so_far.0 in
    let moved : ReadsFront (Some rest) last count buffer = subst (λ m. ReadsFront m last count buffer) so_far.1 step in (
      drop count rest,
      moved.0,
      append_assoc bytes (take count buffer) (drop count rest)
          ∙ ap (λ front. bytes ++ (front ++ drop count rest)) moved.2
          ∙ ap (λ all. bytes ++ all) (take-append-drop count rest)
          ∙ so_far.2,
    )

-- a read of nothing is the end
pub read_to_end : (first mid last : Option (List ℕ)) (bytes buffer : List ℕ) (count limit : ℕ)
    → ReadSoFar first mid bytes → ReadsFront mid last count buffer → 0 < length buffer → count ≡ 0 → ReadWhole limit first last bytes
read_to_end None mid last bytes buffer count limit so_far step room none = subst (λ m. ReadsFront m last count buffer) so_far step
read_to_end (Some left) mid last bytes buffer count limit so_far step room none =
    let rest = so_far.0 in
    let moved : ReadsFront (Some rest) last count buffer = subst (λ m. ReadsFront m last count buffer) so_far.1 step in
    let ended : rest ≡ [] = moved.3 room none in
    let at_end : last ≡ Some rest = moved.0 ∙ ap (λ n. Some (drop n rest)) none in
    (rest, at_end, so_far.2, inl ended)

-- the reading stopped at the limit
pub read_to_limit : (first last : Option (List ℕ)) (bytes : List ℕ) (limit : ℕ)
    → ReadSoFar first last bytes → length bytes ≡ limit → ReadWhole limit first last bytes
read_to_limit None last bytes limit so_far full = so_far
read_to_limit (Some left) last bytes limit so_far full = (so_far.0, so_far.1, so_far.2, inr full)

-- a write goes on with the text
pub wrote_more : (first mid last : Option (List ℕ)) (text : List ℕ) (written count : ℕ)
    → WroteWhole first mid (take written text) → WritesFront mid last count (take (length text - written) (drop written text))
    → WroteWhole first last (take (written + count) text)
wrote_more None mid last text written count so_far step =
    subst (λ m. WritesFront m last count (take (length text - written) (drop written text))) so_far step
wrote_more (Some taken) mid last text written count so_far step =
    let put : last ≡ Some ((taken ++ take written text) ++ take count (take (length text - written) (drop written text))) =
    subst (λ m. WritesFront m last count (take (length text - written) (drop written text))) so_far step in
    put
    ∙ ap Some (append_assoc taken (take written text) (take count (take (length text - written) (drop written text)))
    ∙ ap (λ rest. taken ++ (take written text ++ take count rest)) (take_rest text written)
    ∙ ap (λ all. taken ++ all) (sym (take-add written count text)))

-- what was written is a front of the text
pub wrote_front : (first last : Option (List ℕ)) (text : List ℕ) (written : ℕ)
    → WroteWhole first last (take written text) → written ≤ length text → WroteFront first last text
wrote_front None last text written so_far within = so_far
wrote_front (Some taken) last text written so_far within = (written, within, so_far)

-- the front of the text's own length is the text
pub wrote_to_end : (first last : Option (List ℕ)) (text : List ℕ) (written : ℕ)
    → WroteWhole first last (take written text) → length text ≤ written → WroteWhole first last text
wrote_to_end first last text written so_far whole =
    subst (λ t. WroteWhole first last t) (take_all written text whole) so_far

pub ruleset read_steps = (read_none, read_more, read_to_end, read_to_limit)

pub ruleset write_steps = (wrote_more, wrote_front, wrote_to_end)
