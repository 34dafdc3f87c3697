-- Kinds of files, by the mode that the system gives of one: the numbers are those of `st_mode` on Linux.
use Rattle.std.specs.Prelude.{◌≡◌, ℕ, bit_and}

-- the mode is that of a regular file: its bits under octal 170000 are 100000
abbrev pub IsRegularFile : ℕ → Type 0
IsRegularFile mode = bit_and mode 0o170000 ≡ 0o100000

-- the mode is that of a block device: its bits under octal 170000 are 060000
abbrev pub IsBlockDevice : ℕ → Type 0
IsBlockDevice mode = bit_and mode 0o170000 ≡ 0o060000
