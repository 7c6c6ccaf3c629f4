-- The address of a Unix socket on Linux, in the 128 bytes of the largest address.
use Rattle.std.specs.Prelude.{ℕ, ◌-◌, List, ◌∷◌, ◌++◌, length, replicate}

-- the number of the family of Unix sockets in two bytes, the lower one first; the path; and zeros
abbrev pub sockaddr_un : List ℕ → List ℕ
sockaddr_un path = 1 ∷ 0 ∷ (path ++ replicate (126 - length path) 0)
