use Rattle.std.proofs.Common.{◌≡◌, ℕ, List, [], ◌++◌, length, take, ap, ◌∙◌}
use Rattle.std.specs.Int.{w32, w64, from_be_bytes, to_be_bytes}
use Rattle.sha2.specs.Sha256.{sha256}
use Rattle.kv_value.specs.Hashing.{framing, hash_of}
use Rattle.kv_value.proofs.hash.hash_of.Goals as goal

-- pieces that are equal one by one make equal messages
same_pieces : {a b c d e aa bb cc dd ee : List ℕ} → a ≡ aa → b ≡ bb → c ≡ cc → d ≡ dd → e ≡ ee → a ++ b ++ c ++ d ++ e ≡ aa ++ bb ++ cc ++ dd ++ ee
same_pieces p q r s t = cc

pub returns : goal.returns
unfolding framing hash_of
returns c =
    let holds1 = c.update.ensures [] c.new-hasher.ensures in
    let holds2 = c.update-2.ensures _ holds1 in
    let holds3 = c.update-3.ensures _ holds2 in
    let holds4 = c.update-4.ensures _ holds3 in
    let holds5 = c.update-5.ensures _ holds4 in
    let digest = c.finalize.ensures _ holds5 in
    let originator = c.as_bytes-originator.ensures.value ∙ c.as_str.ensures in
    let value = c.as_slice-value.ensures in
    let message = same_pieces c.to_be_bytes.ensures (c.length_bytes.ensures ∙ ap (λ o. to_be_bytes w32 (length o)) originator) originator
    (c.length_bytes-2.ensures ∙ ap (λ o. to_be_bytes w32 (length o)) value) value in
    c.first_number.ensures ∙ ap (λ d. from_be_bytes w64 (take 8 d)) (digest ∙ ap sha256 message)
