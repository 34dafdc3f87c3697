-- A line that is written part by part, until a write fails.
use Rattle.std.proofs.Common.{◌≡◌, ℕ, List, [], ◌∷◌, ◌++◌, OnOk, Option, Result, codes, ap, subst, sym, ◌∙◌, append_assoc}
use Rattle.std.specs.Io.KnownBytes.{Appends}
use Rattle.scrub_cli.specs.Fault.{line}
use Rattle.scrub_report.specs.Output.{AppendsFront}
use Rattle.scrub_cli.proofs.Appending.{front_stays, front_then, ok_then}

abbrev before : List ℕ
before = codes "shardscrub: "

module _ (what which : List ℕ) where
  parts : before ++ (what ++ (which ++ 10 ∷ [])) ≡ line (what ++ which)
  parts = ap (λ u. before ++ u) (sym (append_assoc what which (10 ∷ [])))

  -- a front of the program's name
  pub line_first : (old new : Option (List ℕ)) → AppendsFront old new before → AppendsFront old new (line (what ++ which))
  line_first old new front = subst (AppendsFront old new) parts (front_stays old new before _ front)

  -- the name, and a front of the first part
  pub line_second : (old mid new : Option (List ℕ)) (a : List ℕ) → a ≡ what → Appends old mid before → AppendsFront mid new a →
      AppendsFront old new (line (what ++ which))
  line_second old mid new a is name front =
      let rest = rw is at (front_stays mid new a (which ++ 10 ∷ []) front) in
      subst (AppendsFront old new) parts (front_then old mid new before _ name rest)

  -- the name, the first part, and a front of the second
  pub line_third : (old mid mid2 new : Option (List ℕ)) (a b : List ℕ) → a ≡ what → b ≡ which → Appends old mid before →
      Appends mid mid2 a →
      AppendsFront mid2 new b → AppendsFront old new (line (what ++ which))
  line_third old mid mid2 new a b is also name first front =
      let last = rw also at (front_stays mid2 new b (10 ∷ []) front) in
      let rest = front_then mid mid2 new what (which ++ 10 ∷ []) (subst (Appends mid mid2) is first) last in
      subst (AppendsFront old new) parts (front_then old mid new before _ name rest)

  -- all parts, and the line feed or nothing
  pub line_last : (old mid mid2 mid3 new : Option (List ℕ)) (a b : List ℕ) → a ≡ what → b ≡ which → Appends old mid before →
      Appends mid mid2 a →
      Appends mid2 mid3 b → AppendsFront mid3 new (10 ∷ []) → AppendsFront old new (line (what ++ which))
  line_last old mid mid2 mid3 new a b is also name first second front =
      let last = front_then mid2 mid3 new which (10 ∷ []) (subst (Appends mid2 mid3) also second) front in
      let rest = front_then mid mid2 new what (which ++ 10 ∷ []) (subst (Appends mid mid2) is first) last in
      subst (AppendsFront old new) parts (front_then old mid new before _ name rest)

  -- the whole line, if the line feed was written too
  pub line_whole : {T E : Type 0} (r : Result T E) (old mid mid2 mid3 new : Option (List ℕ)) (a b : List ℕ) → a ≡ what →
      b ≡ which → Appends old mid before →
      Appends mid mid2 a → Appends mid2 mid3 b → OnOk r (Appends mid3 new (10 ∷ [])) →
      OnOk r (Appends old new (line (what ++ which)))
  line_whole r old mid mid2 mid3 new a b is also name first second ended =
      let last = ok_then r mid2 mid3 new which (10 ∷ []) (subst (Appends mid2 mid3) also second) ended in
      let rest = ok_then r mid mid2 new what (which ++ 10 ∷ []) (subst (Appends mid mid2) is first) last in
      rw parts at (ok_then r old mid new before _ name rest)

-- a line with a number between its two parts
module _ (what number which : List ℕ) where
  number_parts : before ++ (what ++ (number ++ (which ++ 10 ∷ []))) ≡ line (what ++ number ++ which)
  number_parts =
      ap (λ u. before ++ u)
      (sym (append_assoc what number (which ++ 10 ∷ [])) ∙ sym (append_assoc (what ++ number) which (10 ∷ [])))

  -- a front of the program's name
  pub number_first : (old new : Option (List ℕ)) → AppendsFront old new before →
      AppendsFront old new (line (what ++ number ++ which))
  number_first old new front = subst (AppendsFront old new) number_parts (front_stays old new before _ front)

  -- the name, and a front of the first part
  pub number_second : (old mid new : Option (List ℕ)) (a : List ℕ) → a ≡ what → Appends old mid before →
      AppendsFront mid new a →
      AppendsFront old new (line (what ++ number ++ which))
  number_second old mid new a is name front =
      let rest = rw is at (front_stays mid new a (number ++ (which ++ 10 ∷ [])) front) in
      subst (AppendsFront old new) number_parts (front_then old mid new before _ name rest)

  -- the name, the first part, and a front of the rest
  behind_first : (old mid mid2 new : Option (List ℕ)) (a : List ℕ) → a ≡ what → Appends old mid before → Appends mid mid2 a →
      AppendsFront mid2 new (number ++ (which ++ 10 ∷ [])) → AppendsFront old new (line (what ++ number ++ which))
  behind_first old mid mid2 new a is name first rest =
      subst (AppendsFront old new) number_parts
      (front_then old mid new before _ name (front_then mid mid2 new what _ (subst (Appends mid mid2) is first) rest))

  -- the name, the first part, and a front of the number
  pub number_third : (old mid mid2 new : Option (List ℕ)) (a : List ℕ) → a ≡ what → Appends old mid before →
      Appends mid mid2 a →
      AppendsFront mid2 new number → AppendsFront old new (line (what ++ number ++ which))
  number_third old mid mid2 new a is name first front =
      behind_first old mid mid2 new a is name first (front_stays mid2 new number (which ++ 10 ∷ []) front)

  -- the name, the first part, the number, and a front of the second part
  pub number_fourth : (old mid mid2 mid3 new : Option (List ℕ)) (a b : List ℕ) → a ≡ what → b ≡ which → Appends old mid before →
      Appends mid mid2 a →
      Appends mid2 mid3 number → AppendsFront mid3 new b → AppendsFront old new (line (what ++ number ++ which))
  number_fourth old mid mid2 mid3 new a b is also name first digits front =
      let last = rw also at (front_stays mid3 new b (10 ∷ []) front) in
      behind_first old mid mid2 new a is name first (front_then mid2 mid3 new number _ digits last)

  -- all parts, and the line feed or nothing
  pub number_last : (old mid mid2 mid3 mid4 new : Option (List ℕ)) (a b : List ℕ) → a ≡ what → b ≡ which →
      Appends old mid before → Appends mid mid2 a →
      Appends mid2 mid3 number → Appends mid3 mid4 b → AppendsFront mid4 new (10 ∷ []) →
      AppendsFront old new (line (what ++ number ++ which))
  number_last old mid mid2 mid3 mid4 new a b is also name first digits second front =
      let last = front_then mid3 mid4 new which (10 ∷ []) (subst (Appends mid3 mid4) also second) front in
      behind_first old mid mid2 new a is name first (front_then mid2 mid3 new number _ digits last)

  -- the whole line, if the line feed was written too
  pub number_whole : {T E : Type 0} (r : Result T E) (old mid mid2 mid3 mid4 new : Option (List ℕ)) (a b : List ℕ) → a ≡ what →
      b ≡ which →
      Appends old mid before → Appends mid mid2 a → Appends mid2 mid3 number → Appends mid3 mid4 b →
      OnOk r (Appends mid4 new (10 ∷ [])) →
      OnOk r (Appends old new (line (what ++ number ++ which)))
  number_whole r old mid mid2 mid3 mid4 new a b is also name first digits second ended =
      let last = ok_then r mid3 mid4 new which (10 ∷ []) (subst (Appends mid3 mid4) also second) ended in
      let rest =
      ok_then r mid mid2 new what _ (subst (Appends mid mid2) is first) (ok_then r mid2 mid3 new number _ digits last) in
      rw number_parts at (ok_then r old mid new before _ name rest)
