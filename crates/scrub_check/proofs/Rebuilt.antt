-- The named locators with their statuses, as they are named once more, one binding after the other.
use Rattle.std.proofs.Common.{◌≡◌, ◌<◌, ◌+◌, ℕ, suc, List, [], ◌∷◌, ◌++◌, Option, length, take, drop, get_or, arith, refl, sym, ◌∙◌, ap, append_assoc}
use Rattle.std.specs.List.{AllZip, flat_map}
use Rattle.std.proofs.Math.Seq.{split_at}
use Rattle.std.proofs.lemmas.List.{get_or-append-add, get_or_append_left, length-append, length-take-le, take_more}
use Rattle.std.proofs.lemmas.Grind.{flat_map-append}
use Rattle.std.proofs.lemmas.Slice.Zip.{AllZip-long}
use Rattle.list_facts.proofs.Zips.{AllZip-append}
use Rattle.scrub_disk.specs.Image.{Image}
use Rattle.scrub_super.specs.Plan.{PlanValue}
use Rattle.scrub_frame.specs.declared.locator.Locator.{Locator}
use Rattle.scrub_merge.specs.Binding.{BindingValue}
use Rattle.scrub_check.specs.declared.named.Named.{Named}
use Rattle.scrub_check.specs.declared.statuses.checked.Checked.{Checked}
use Rattle.scrub_check.specs.declared.statuses.status.Status.{Status}
use Rattle.scrub_check.specs.Checked.{IsChecked}
use Rattle.scrub_check.specs.Named.{named_by_runs, named_by_shard, named_locators}
use Rattle.scrub_check.specs.steps.Open.{IsKnownBefore}
use Rattle.scrub_check.proofs.CheckedLists.{known_at}
use Rattle.scrub_check.proofs.NamedLists.{bindings_more}

-- ---- one more named locator

module _ (image : Image) (plan : PlanValue) (before named later : List Named) (tells : List (Option Status)) (checked : List Checked) (i : ℕ)
    (below : i < length named) (known : AllZip (IsKnownBefore image plan) (before ++ (named ++ later)) tells)
    (so_far : AllZip (IsChecked image plan) (before ++ take i named) checked) where
  -- how many are before it
  many : length before + i ≡ length checked
  many =
      let long = AllZip-long (IsChecked image plan) (before ++ take i named) checked so_far in
      let taken = length-take-le i named (omega (arith, below)) in
      let both = length-append before (take i named) in
      omega (arith, long, taken, both)

  -- As long as a named locator isn't checked yet, the number of those checked is an index into `tells`.
  pub inside : (at : ℕ) → at ≡ length checked → at < length tells
  inside at here =
      let long = AllZip-long (IsKnownBefore image plan) (before ++ (named ++ later)) tells known in
      let within = length-append before (named ++ later) in
      let more = length-append named later in
      omega (arith, many, here, long, within, more, below)

  -- The element of `tells` at that index is what is known of named locator `i` before its place is read.
  pub tell : (at : ℕ) (name : Named) (status : Option Status) → at ≡ length checked → name ≡ get_or named i name → status ≡ get_or tells at status →
      IsKnownBefore image plan name status
  tell at name status here is told =
      let place : length before + i ≡ at = omega (arith, many, here) in
      let among : get_or (before ++ (named ++ later)) (length before + i) name ≡ get_or named i name =
      get_or-append-add before (named ++ later) i name ∙ get_or_append_left named later name i below in
      let within = length-append before (named ++ later) in
      let more = length-append named later in
      known_at image plan (before ++ (named ++ later)) tells at name status (omega (arith, place, within, more, below))
      (is ∙ sym among ∙ ap (λ k. get_or (before ++ (named ++ later)) k name) place) told known

  -- With named locator `i` checked and appended, `before` and the first `i + 1` of `named` are checked.
  pub one_more : (name : Named) (one : Checked) (new : List Checked) → name ≡ get_or named i name → IsChecked image plan name one →
      new ≡ checked ++ one ∷ [] → AllZip (IsChecked image plan) (before ++ take (i + 1) named) new
  one_more name one new is right grown =
      let names : before ++ take (i + 1) named ≡ (before ++ take i named) ++ name ∷ [] =
      ap (λ ns. before ++ ns) (take_more named i name below ∙ ap (λ n. take i named ++ n ∷ []) (sym is))
      ∙ sym (append_assoc before (take i named) (name ∷ [])) in
      rw (names, grown) (AllZip-append (IsChecked image plan) (before ++ take i named) (name ∷ []) checked (one ∷ []) so_far (right, tt))

-- ---- one more binding

-- what runs and the first bindings name
abbrev pub named_first : List Locator → List BindingValue → ℕ → List Named
named_first runs bindings k = named_by_runs 0 runs ++ flat_map named_by_shard (take k bindings)

-- what the other bindings name
abbrev pub named_later : List BindingValue → ℕ → List Named
named_later bindings k = flat_map named_by_shard (drop (suc k) bindings)

-- the names, parted at one binding
pub at_binding : (runs : List Locator) (bindings : List BindingValue) (k : ℕ) (b : BindingValue) → k < length bindings → b ≡ get_or bindings k b →
    named_locators runs bindings ≡ named_first runs bindings k ++ (named_by_shard b ++ named_later bindings k)
at_binding runs bindings k b below is =
    let parted : bindings ≡ take k bindings ++ b ∷ drop (suc k) bindings =
    split_at bindings k b below ∙ ap (λ c. take k bindings ++ c ∷ drop (suc k) bindings) (sym is) in
    ap (λ bs. named_by_runs 0 runs ++ flat_map named_by_shard bs) parted
    ∙ ap (λ ns. named_by_runs 0 runs ++ ns) (flat_map-append named_by_shard (take k bindings) (b ∷ drop (suc k) bindings))
    ∙ sym (append_assoc (named_by_runs 0 runs) (flat_map named_by_shard (take k bindings)) (named_by_shard b ++ named_later bindings k))

-- with the binding they are one more
pub first_more : (runs : List Locator) (bindings : List BindingValue) (k : ℕ) (b : BindingValue) → k < length bindings → b ≡ get_or bindings k b →
    named_first runs bindings k ++ named_by_shard b ≡ named_first runs bindings (k + 1)
first_more runs bindings k b below is =
    ap (λ c. named_first runs bindings k ++ named_by_shard c) is
    ∙ bindings_more (named_by_runs 0 runs) bindings k b (named_first runs bindings k)
    (named_first runs bindings k ++ named_by_shard (get_or bindings k b)) below refl refl
