-- In which shard a document stands: by the hash FNV-1a of its id, in 32 bits.
use Rattle.std.specs.Prelude.{ℕ, ◌*◌, ◌%◌, List, fold, bit_xor}

abbrev pub hash_step : ℕ → ℕ → ℕ
hash_step hash byte = (bit_xor hash byte * 16777619) % 4294967296

abbrev pub hash_of : List ℕ → ℕ
hash_of bytes = fold hash_step 2166136261 bytes

abbrev pub shard_of : List ℕ → ℕ → ℕ
shard_of id shards = hash_of id % shards
