-- Lists of checked locators.
use Rattle.std.proofs.Common.{◌≡◌, ◌<◌, ℕ, List, [], ◌∷◌, Option, length, get_or, map, refl, subst}
use Rattle.std.specs.List.{AllZip}
use Rattle.std.proofs.lemmas.List.Elements.{All-head, All-tail}
use Rattle.list_facts.proofs.OneAnswers.{HasOneAnswer, as_said, one_of_each, same_answer}
use Rattle.list_facts.proofs.Zips.{All-seconds, AllZip-at, AllZip-map_back}
use Rattle.scrub_disk.specs.Image.{Image}
use Rattle.scrub_super.specs.Plan.{PlanValue}
use Rattle.scrub_check.specs.declared.named.Named.{Named}
use Rattle.scrub_check.specs.declared.statuses.checked.Checked.{Checked}
use Rattle.scrub_check.specs.Status.{HasStatusIn}
use Rattle.scrub_check.specs.declared.statuses.status.Status.{Status}
use Rattle.scrub_check.specs.Checked.{IsChecked, AreChecked, HaveStatuses, named_of}
use Rattle.scrub_check.specs.steps.Open.{IsKnownBefore}
use Rattle.scrub_check.proofs.OneStatus.{one_in_plan}
use Rattle.scrub_check.proofs.StatusThere.{some_in_plan}

abbrev HasOwn : Image → PlanValue → Checked → Type 0
HasOwn image plan c = HasStatusIn image plan c.locator c.status

-- each by itself is all of them
pub each_checked : (image : Image) (plan : PlanValue) (names : List Named) (checked : List Checked) →
    AllZip (IsChecked image plan) names checked → AreChecked image plan names checked
each_checked image plan names checked h = record {
  same = AllZip-map_back (IsChecked image plan) named_of (λ n c is. is.same) names checked h;
  statuses = All-seconds (IsChecked image plan) (HasOwn image plan) (λ n c is. is.status) names checked h;
}

-- what is known of one
pub known_at : (image : Image) (plan : PlanValue) (names : List Named) (tells : List (Option Status)) (i : ℕ) (n : Named) (t : Option Status) →
    i < length names → n ≡ get_or names i n → t ≡ get_or tells i t →
    AllZip (IsKnownBefore image plan) names tells → IsKnownBefore image plan n t
known_at image plan names tells i n t below name_is tell_is known =
    rw name_is
    (rw tell_is (AllZip-at (IsKnownBefore image plan) names tells i n t below known))

-- ---- one list

-- By a plan of an image, a named locator has one status.
the_one_checked : (image : Image) (plan : PlanValue) (n : Named) → HasOneAnswer (IsChecked image plan n)
the_one_checked image plan n =
    let s = some_in_plan image plan n.locator in
    record {
      answer = record { owner = n.owner; locator = n.locator; status = s.0 };
      meets = record { same = refl; status = s.1 };
      only = λ c is.
          let own : HasStatusIn image plan n.locator c.status =
          subst (λ (m : Named). HasStatusIn image plan m.locator c.status) is.same is.status in
          let status : c.status ≡ s.0 = (one_in_plan image plan n.locator).one c.status s.0 own s.1 in
          λ i. record { owner = (is.same i).owner; locator = (is.same i).locator; status = status i };
    }

checked_each : (image : Image) (plan : PlanValue) (cs : List Checked) → HaveStatuses image plan cs →
    AllZip (IsChecked image plan) (map named_of cs) cs
checked_each image plan [] have = tt
checked_each image plan (c ∷ cs) have = (
  record { same = refl; status = All-head (HasOwn image plan) c cs have },
  checked_each image plan cs (All-tail (HasOwn image plan) c cs have),
)

-- By a plan of an image, named locators have one list of statuses.
pub the_checked : (image : Image) (plan : PlanValue) (names : List Named) → HasOneAnswer (AreChecked image plan names)
the_checked image plan names =
    as_said (λ cs. cs) (λ cs. cs) (each_checked image plan names)
    (λ cs are. subst (λ (ns : List Named). AllZip (IsChecked image plan) ns cs) are.same (checked_each image plan cs are.statuses))
    (λ cs are. refl) (one_of_each (the_one_checked image plan) names)

pub one_list_of_checked : (image : Image) (plan : PlanValue) (names : List Named) (cs ds : List Checked) →
    AreChecked image plan names cs → AreChecked image plan names ds → cs ≡ ds
one_list_of_checked image plan names = same_answer (the_checked image plan names)
