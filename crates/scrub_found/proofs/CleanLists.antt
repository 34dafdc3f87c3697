-- No locator dangles or is hidden exactly if each is sound.
use Rattle.std.proofs.Common.{◌≡◌, ◌⊎◌, ◌&&◌, Bool, true, false, List, [], ◌∷◌, length, refl, ap, ◌∙◌, cond, inl, inr}
use Rattle.std.specs.Prelude.{◌==◌}
use Rattle.std.proofs.Math.Dec.{eqb-suc-zero}
use Rattle.std.specs.List.{list_all}
use Rattle.scrub_check.specs.declared.statuses.checked.Checked.{Checked}
use Rattle.scrub_check.specs.declared.statuses.status.Status.{Status}
use Rattle.scrub_check.specs.declared.statuses.status.Status.TheVariants.{Hidden, Sound}
use Rattle.scrub_check.specs.Checked.{is_sound, is_hidden, is_dangling, dangling, hidden}
use Rattle.scrub_check.proofs.StatusKinds.{dangling_is_neither, status_kinds}

and_false : (a : Bool) → (a && false) ≡ false
and_false true = refl
and_false false = refl

-- one more locator
one_more : (c : Checked) (s : Status) (ds hs : List Checked) (rest : Bool) → (length ds == 0 && length hs == 0) ≡ rest →
    (length (cond (is_dangling s) (c ∷ ds) ds) == 0 && length (cond (is_hidden s) (c ∷ hs) hs) == 0) ≡ (is_sound s && rest)
one_more c s ds hs rest h = by (status_kinds s)
  where
    by : (s ≡ Sound) ⊎ ((s ≡ Hidden) ⊎ (is_dangling s ≡ true)) →
        (length (cond (is_dangling s) (c ∷ ds) ds) == 0 && length (cond (is_hidden s) (c ∷ hs) hs) == 0) ≡ (is_sound s && rest)
    by (inl is) = rw is h
    by (inr (inl is)) = rw is (ap (λ none. length ds == 0 && none) (eqb-suc-zero (length hs)) ∙ and_false (length ds == 0))
    by (inr (inr dangles)) = rw (dangles, (dangling_is_neither s dangles).0) (ap (λ none. none && length (cond (is_hidden s) (c ∷ hs) hs) == 0) (eqb-suc-zero (length ds)))

-- No locator dangles or is hidden exactly if each locator is sound.
pub sound_alone : (cs : List Checked) →
    (length (dangling cs) == 0 && length (hidden cs) == 0) ≡ list_all (λ c. is_sound c.status) cs
sound_alone [] = refl
sound_alone (c ∷ cs) =
    one_more c c.status (dangling cs) (hidden cs) (list_all (λ d. is_sound d.status) cs) (sound_alone cs)
