-- What a writer holds after two writes.
use Rattle.std.proofs.Common.{◌≡◌, List, ◌++◌, ℕ, ◌+◌, ◌-◌, ◌≤◌, length, take, drop, Option, None, Some, append_assoc, ap, ◌∙◌, sym, arith, length-take, length-drop}
use Rattle.std.proofs.lemmas.List.{take-take}
use Rattle.std.proofs.Math.Seq.{take-add}
use Rattle.std.specs.Io.KnownBytes.{Appends}

-- if one part was appended and then another, both were
pub appends_twice : (old mid new : Option (List ℕ)) (first second both : List ℕ) →
    Appends old mid first → Appends mid new second → both ≡ first ++ second → Appends old new both
appends_twice None mid new first second both before now joined = tt
appends_twice (Some xs) None new first second both before now joined = absurd before
appends_twice (Some xs) (Some ys) None first second both before now joined = absurd now
appends_twice (Some xs) (Some ys) (Some zs) first second both before now joined =
    now ∙ ap (λ u. u ++ second) before ∙ append_assoc xs first second ∙ ap (λ u. xs ++ u) (sym joined)

-- if the first n bytes were appended and then k of the rest, the first n + k were
pub appends_next : (old mid new : Option (List ℕ)) (bytes : List ℕ) (n k : ℕ) → n ≤ length bytes →
    k ≤ length (take (length bytes - n) (drop n bytes)) →
    Appends old mid (take n bytes) →
    Appends mid new (take k (take (length bytes - n) (drop n bytes))) →
    (n + k ≤ length bytes) × Appends old new (take (n + k) bytes)
appends_next old mid new bytes n k within bound before now =
    let room : k ≤ length bytes - n = grind (arith, length-take, length-drop, bound) in
    let left = take-take k (length bytes - n) (drop n bytes) room in
    let joined = take-add n k bytes ∙ ap (λ u. take n bytes ++ u) (sym left) in
    (omega (arith, room, within), appends_twice old mid new (take n bytes) _ _ before now joined)
