-- What a fault of a map says.
use Rattle.std.specs.Prelude.{ℕ, ⊤}
use Rattle.scrub_map.specs.declared.reading.MapFault.{MapFault}
use Rattle.scrub_map.specs.declared.reading.MapFault.TheVariants.{OutOfMemory, Line}

-- the fault names a line and P holds for its number, or memory ran out
abbrev pub IfBadLine : MapFault → (ℕ → Type 0) → Type 0
IfBadLine OutOfMemory P = ⊤
IfBadLine (Line k) P = P k
