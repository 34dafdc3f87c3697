-- Images whose pages hold raw bytes, and marks on them.
use Rattle.std.proofs.Common.{◌≡◌, ◌<◌, ◌≤◌, ◌+◌, ◌-◌, ◌*◌, ◌/◌, ◌%◌, ℕ, Bool, true, false, cond, List, length, get_or, arith, refl, sym, ◌∙◌, ap, inl, inr, ◌⊎◌, Option, Some, None, IfSome, All, take, slice_get}
use Rattle.std.specs.List.{between}
use Rattle.std.proofs.lemmas.Nat.{div-add-mod', div-mul-add, mod-mul-add}
use Rattle.std.proofs.lemmas.Bool.{cases_eq, false≢true}
use Rattle.std.proofs.lemmas.List.{get_or_default, get_or-take, length-take-le}
use Rattle.std.proofs.lemmas.List.Elements.{All-more}
use Rattle.std.proofs.lemmas.List.Edits.{length-between, get_or-between}
use Rattle.scrub_disk.specs.declared.geometry.Geometry.{Geometry}
use Rattle.scrub_disk.specs.Image.{Image}
use Rattle.scrub_disk.specs.BytesAndMarks.{held}
use Rattle.scrub_disk.specs.steps.WholePages.{page_room}
use Rattle.scrub_disk.specs.Memory.{Marks}
use Rattle.scrub_disk.specs.Raw.{IsReadOn, IsPageAt, HoldsRaw, every_extent}
use Rattle.scrub_disk.specs.steps.Ahead.{HoldsFrom}
use Rattle.scrub_disk.specs.steps.Marked.{MarksAll, MarksLost}

-- reads, and more reads
pub read_on_more : {R : Type 0} {bytes : R → Option (List ℕ)} {fails : R → ℕ → ℕ → Bool} {most failures : R → ℕ} {a b c : R} →
    IsReadOn bytes fails most failures a b → IsReadOn bytes fails most failures b c → IsReadOn bytes fails most failures a c
read_on_more h k = record {
  same_bytes = k.same_bytes ∙ h.same_bytes;
  same_fails = k.same_fails ∙ h.same_fails;
  same_bound = k.same_bound ∙ h.same_bound;
  counted = omega (arith, h.counted, k.counted);
}

-- a disk whose unmarked bytes are the raw ones has the raw pages
pub holds_raw : (g : Geometry) (known bytes : List ℕ) (marks : List Bool) → length bytes ≡ g.page * g.pages * g.extents →
    length marks ≡ g.pages * g.extents →
    HoldsFrom known (0 * g.page) g.page marks bytes → HoldsRaw every_extent known (held g bytes marks)
holds_raw g known bytes marks lb lm h e q w he hq = by_mark (get_or marks (e * g.pages + q) false) (λ f. f)
  where
    by_mark : (b : Bool) → (b ≡ false → get_or marks (e * g.pages + q) false ≡ false) →
        IfSome (cond b None (Some (between ((e * g.pages + q) * g.page) ((e * g.pages + q) * g.page + g.page) bytes))) (IsPageAt known ((e * g.pages + q) * g.page) g.page)
    by_mark true f = tt
    by_mark false f =
        let room = page_room g.page g.pages g.extents e q he hq in
        let l : length (between ((e * g.pages + q) * g.page) ((e * g.pages + q) * g.page + g.page) bytes) ≡ g.page =
        length-between bytes ((e * g.pages + q) * g.page) ((e * g.pages + q) * g.page + g.page) (omega (arith, room.1, lb))
        ∙ (let z : (e * g.pages + q) * g.page + g.page - (e * g.pages + q) * g.page ≡ g.page = omega arith in z) in
        record {
          whole = l;
          stands = λ k hk.
              let small : k < g.page = omega (arith, hk, l) in
              let own : ((e * g.pages + q) * g.page + k) / g.page ≡ e * g.pages + q =
              div-mul-add (e * g.pages + q) g.page k small in
              ap (slice_get known) (let z : (e * g.pages + q) * g.page + k ≡ 0 * g.page + ((e * g.pages + q) * g.page + k) = omega arith in z)
              ∙ h ((e * g.pages + q) * g.page + k) (omega (arith, room.1, lb, small))
              (ap (λ m. get_or marks m true) own ∙ get_or_default marks (e * g.pages + q) true false (omega (arith, room.0, lm)) ∙ f refl)
              ∙ ap Some
              (sym (get_or-between bytes ((e * g.pages + q) * g.page) ((e * g.pages + q) * g.page + g.page) k 0 (omega (arith, small))));
        }

-- an element of a front of a list
front_at : {X : Type 0} (xs : List X) (i k : ℕ) (d : X) → i ≤ length xs → k < length (take i xs) →
    (k < i) × (get_or (take i xs) k d ≡ get_or xs k d)
front_at {X} xs i k d le hk =
    let small : k < i = omega (arith, hk, length-take-le {A = X} i xs le) in
    (small, get_or-take i xs k d small)

-- page q of extent e, by its name
abbrev at : ℕ → ℕ → ℕ × ℕ
at e q = (e, q)

-- what one more mark changes
marks_step : (mid new : Image) (e q f w : ℕ) → Marks mid new e q → f < mid.geometry.extents → w < mid.geometry.pages →
    (new.page f w ≡ mid.page f w) ⊎ ((new.page f w ≡ None) × (at f w ≡ at e q))
marks_step mid new e q f w m hf hr = elim (cases_eq f e) [
  | inr ne ↦ inl (m.others f w hf hr (inl ne))
  | inl fe ↦ elim (cases_eq w q) [
    | inr ne ↦ inl (m.others f w hf hr (inr ne))
    | inl rq ↦
        inr
        (ap (λ x. new.page x w) fe ∙ ap (λ y. new.page e y) rq ∙ m.marked, ap (λ x. at x w) fe ∙ ap (λ y. at e y) rq)
  ]
]

-- one more named page was marked
pub marks_more : (old mid new : Image) (named : List (ℕ × ℕ)) (i e q : ℕ) (d : ℕ × ℕ) →
    All (λ (x : ℕ × ℕ). (x.0 < old.geometry.extents) × (x.1 < old.geometry.pages)) named →
    MarksAll old mid (take i named) → Marks mid new e q → i < length named → get_or named i d ≡ at e q →
    MarksAll old new (take (i + 1) named)
marks_more old mid new named i e q d range h m below is =
    let same : mid.geometry ≡ old.geometry = h.geometry in
    let step : (f w : ℕ) → f < old.geometry.extents → w < old.geometry.pages → (new.page f w ≡ mid.page f w) ⊎ ((new.page f w ≡ None) × (at f w ≡ at e q)) =
    λ f w hf hr. marks_step mid new e q f w m (rw same hf) (rw same hr) in
    let before : All (λ (x : ℕ × ℕ). new.page x.0 x.1 ≡ None) (take i named) =
    λ k z hk.
    let front = front_at named i k z (omega (arith, below)) hk in
    let r = rw (← front.1) at (range k z (omega (arith, front.0, below))) in
    elim (step (get_or (take i named) k z).0 (get_or (take i named) k z).1 r.0 r.1) [
      | inl kept ↦ kept ∙ h.marked k z hk
      | inr gone ↦ gone.0
    ] in
    record {
      geometry = m.geometry ∙ h.geometry;
      marked = All-more (λ (x : ℕ × ℕ). new.page x.0 x.1 ≡ None) named i d below before (rw is m.marked);
      others = λ f w hf hr. elim (step f w hf hr) [
        | inl kept ↦ elim (h.others f w hf hr) [
          | inl was ↦ inl (kept ∙ was)
          | inr gone ↦
              let k : ℕ = gone.1.0 in
              let front = front_at named i gone.1.0 (f, w) (omega (arith, below)) gone.1.1 in
              inr
              (kept ∙ gone.0, (gone.1.0, omega (arith, front.0, below, length-take-le {A = ℕ × ℕ} (i + 1) named (omega (arith, below))), get_or-take (i + 1) named gone.1.0 (f, w) (omega (arith, front.0)) ∙ sym front.1 ∙ gone.1.2))
        ]
        | inr gone ↦
            inr
            (gone.0, (i, omega (arith, below, length-take-le {A = ℕ × ℕ} (i + 1) named (omega (arith, below))), get_or-take (i + 1) named i (f, w) (omega arith) ∙ get_or_default named i (f, w) d below ∙ is ∙ sym gone.1))
      ];
    }

-- page q of extent e is page n of all pages, of which an extent has N
page_of : (N e q n : ℕ) → q < N → e * N + q ≡ n → (e ≡ n / N) × (q ≡ n % N)
page_of N e q n hq is =
    (sym (div-mul-add e N q hq) ∙ ap (λ m. m / N) is, sym (mod-mul-add e N q hq) ∙ ap (λ m. m % N) is)

-- one more lost page was marked
pub marks_lost_more : (marks : List Bool) (n N : ℕ) (old mid new : Image) → N ≡ old.geometry.pages → get_or marks n false ≡ true →
    MarksLost marks n old mid → Marks mid new (n / N) (n % N) → MarksLost marks (n + 1) old new
marks_lost_more marks n N old mid new same marked l m = record {
  geometry = m.geometry ∙ l.geometry;
  lost = λ e q he hq below is. elim (step e q he hq) [
    | inl kept ↦ kept.1 ∙ l.lost e q he hq (omega (arith, below, kept.0)) is
    | inr gone ↦ gone.1
  ];
  kept = λ e q he hq clear. elim (step e q he hq) [
    | inl kept ↦ kept.1 ∙ l.kept e q he hq (λ below. clear (omega (arith, below)))
    | inr gone ↦
        absurd (false≢true (sym (clear (omega (arith, gone.0))) ∙ ap (λ k. get_or marks k false) gone.0 ∙ marked))
  ];
}
  where
    elsewhere : (e q : ℕ) → (e * old.geometry.pages + q ≡ n → ⊥) → (e ≡ n / N → ⊥) ⊎ (q ≡ n % N → ⊥)
    elsewhere e q ne = elim (cases_eq e (n / N)) [
      | inr other ↦ inl other
      | inl own ↦
          inr
          (λ at. ne (ap (λ k. e * k + q) (sym same) ∙ ap (λ k. k * N + q) own ∙ ap (λ k. n / N * N + k) at ∙ div-add-mod' n N))
    ]

    step : (e q : ℕ) → e < old.geometry.extents → q < old.geometry.pages →
        ((e * old.geometry.pages + q ≡ n → ⊥) × (new.page e q ≡ mid.page e q))
        ⊎ ((e * old.geometry.pages + q ≡ n) × (new.page e q ≡ None))
    step e q he hq = elim (cases_eq (e * old.geometry.pages + q) n) [
      | inr ne ↦ inl (ne, m.others e q (rw l.geometry he) (rw l.geometry hq) (elsewhere e q ne))
      | inl is ↦
          let own = page_of old.geometry.pages e q n hq is in
          inr
          (is, ap (λ x. new.page x q) (own.0 ∙ ap (λ k. n / k) (sym same)) ∙ ap (λ y. new.page (n / N) y) (own.1 ∙ ap (λ k. n % k) (sym same)) ∙ m.marked)
    ]

-- one more page isn't lost
pub marks_lost_same : (marks : List Bool) (n : ℕ) (old new : Image) → get_or marks n false ≡ false → MarksLost marks n old new →
    MarksLost marks (n + 1) old new
marks_lost_same marks n old new clear l = record {
  geometry = l.geometry;
  lost = λ e q he hq below is. elim (cases_eq (e * old.geometry.pages + q) n) [
    | inr ne ↦ l.lost e q he hq (omega (arith, below, ne)) is
    | inl own ↦ absurd (false≢true (sym clear ∙ ap (λ k. get_or marks k false) (sym own) ∙ is))
  ];
  kept = λ e q he hq free. l.kept e q he hq (λ below. free (omega (arith, below)));
}
