-- Addresses by SHA-512.
use Rattle.std.specs.Prelude.{ℕ, List, take}
use Rattle.sha2.specs.Sha512.{sha512}

-- the first 20 bytes of the digest
abbrev pub cut_address : List ℕ → List ℕ
cut_address bytes = take 20 (sha512 bytes)
