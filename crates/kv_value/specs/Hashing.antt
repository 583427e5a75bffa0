-- The hash of a value: what tells values of one version and originator apart.
use Rattle.std.specs.Prelude.{ℕ, List, ◌++◌, length, take}
use Rattle.std.specs.Int.{w32, w64, from_be_bytes, to_be_bytes}
use Rattle.sha2.specs.Sha256.{sha256}
use Rattle.or_base.specs.declared.value.KvValue.{KvValue}

-- What is hashed: the version in 8 bytes, the length of the originator in 4, the originator, the length of the value in 4, and
-- the value; numbers with the high byte first.
unfoldable pub framing : KvValue → List ℕ
framing v = to_be_bytes w64 v.version ++ to_be_bytes w32 (length v.originator) ++ v.originator ++ to_be_bytes w32 (length v.value) ++ v.value

-- the first 8 bytes of the SHA-256 of that, as a number with the high byte first
unfoldable pub hash_of : KvValue → ℕ
hash_of v = from_be_bytes w64 (take 8 (sha256 (framing v)))
