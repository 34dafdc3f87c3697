-- What a writer holds after several writes.
use Rattle.std.proofs.Common.{◌≡◌, List, ◌++◌, ℕ, ◌+◌, length, take, drop, Bool, true, false, Option, append_assoc, ap, subst, refl, ◌∙◌, sym, OnOk, Result, Ok, Err, is_ok}
use Rattle.std.proofs.lemmas.List.{take-append-drop}
use Rattle.std.proofs.Math.Seq.{take-append_seam, take-append-add}
use Rattle.std.specs.Io.KnownBytes.{Appends}
use Rattle.scrub_report.proofs.Appending.{appends_twice}
use Rattle.scrub_report.specs.Output.{AppendsFront}
use Rattle.scrub_cli.specs.Streams.{Gets}

-- a front of the first part is one of both
pub front_stays : (old new : Option (List ℕ)) (first second : List ℕ) → AppendsFront old new first →
    AppendsFront old new (first ++ second)
front_stays old new first second front =
    let part = take front.0 first in
    let rest = drop front.0 first ++ second in
    let parted : first ++ second ≡ part ++ rest =
    ap (λ u. u ++ second) (sym (take-append-drop front.0 first)) ∙ append_assoc part (drop front.0 first) second in
    let same : take (length part) (first ++ second) ≡ part = ap (take (length part)) parted ∙ take-append_seam part rest in
    (length part, subst (Appends old new) (sym same) front.1)

-- the first part, and then a front of the second
pub front_then : (old mid new : Option (List ℕ)) (first second : List ℕ) → Appends old mid first → AppendsFront mid new second →
    AppendsFront old new (first ++ second)
front_then old mid new first second before front = (
  length first + front.0,
  appends_twice old mid new first (take front.0 second) _ before front.1 (take-append-add first second front.0),
)

-- the same for the second part, if its write succeeded
pub ok_then : {T E : Type 0} (r : Result T E) (old mid new : Option (List ℕ)) (first second : List ℕ) → Appends old mid first →
    OnOk r (Appends mid new second) → OnOk r (Appends old new (first ++ second))
ok_then (Ok x) old mid new first second before now = appends_twice old mid new first second _ before now refl
ok_then (Err e) old mid new first second before now = tt

-- the same, if the second part was got whole or begun
pub gets_then : (told : Bool) (old mid new : Option (List ℕ)) (first second : List ℕ) → Appends old mid first →
    Gets told (mid, new) second → Gets told (old, new) (first ++ second)
gets_then true old mid new first second before now = appends_twice old mid new first second _ before now refl
gets_then false old mid new first second before now = front_then old mid new first second before now

-- what holds whether all was told or not, by the call that tells it
pub by_call : {T E : Type 0} (Holds : Bool → Type 0) (r : Result T E) → Holds false → OnOk r (Holds true) → Holds (is_ok r)
by_call Holds (Ok x) begun whole = whole
by_call Holds (Err e) begun whole = begun
