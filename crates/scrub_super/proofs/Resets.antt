-- Write pointers as if some extents had been reset.
use Rattle.std.proofs.Common.{◌≡◌, ◌<◌, ◌≤◌, ◌+◌, ◌*◌, ◌==◌, ◌++◌, ◌∷◌, [], ℕ, Bool, true, false, List, length, get_or, map, take, arith, sym, ◌∙◌, ap, subst, if◌then◌else◌}
use Rattle.std.specs.List.{enumerate_from, list_any}
use Rattle.std.proofs.lemmas.List.{length-map, map-append, take_more}
use Rattle.std.proofs.lemmas.List.Elements.{All-map}
use Rattle.std.proofs.lemmas.List.FromFn.{get_or-enumerate_from, length-enumerate_from}
use Rattle.scrub_disk.specs.declared.geometry.Geometry.{Geometry}
use Rattle.scrub_super.specs.Reset.{pointer_reset, pointers_reset}
use Rattle.scrub_super.specs.steps.Limits.{ArePointers}

-- one more extent
pub reset_more : (extents pointers : List ℕ) (i d v : ℕ) (mid new : List ℕ) → i < length pointers →
    mid ≡ map (pointer_reset extents) (take i (enumerate_from 0 pointers)) →
    v ≡ pointer_reset extents (i, get_or pointers i d) → new ≡ mid ++ v ∷ [] →
    new ≡ map (pointer_reset extents) (take (i + 1) (enumerate_from 0 pointers))
reset_more extents pointers i d v mid new below so_far is grown =
    let es = enumerate_from 0 pointers in
    let f = pointer_reset extents in
    let here : (i, get_or pointers i d) ≡ get_or es i (0, d) =
    ap (λ (n : ℕ). (n, get_or pointers i d)) (let e : i ≡ 0 + i = omega arith in e) ∙ sym (get_or-enumerate_from 0 pointers i (0, d) below) in
    grown
    ∙ ap (λ (us : List ℕ). us ++ v ∷ []) so_far
    ∙ ap (λ (n : ℕ). map f (take i es) ++ n ∷ []) (is ∙ ap f here)
    ∙ sym (map-append f (take i es) (get_or es i (0, d) ∷ []))
    ∙ ap (map f) (sym (take_more es i (0, d) (omega (arith, below, length-enumerate_from 0 pointers))))

-- the pointers stay within their limits
pub reset_within : (g : Geometry) (extents pointers : List ℕ) → ArePointers g pointers → ArePointers g (pointers_reset extents pointers)
reset_within g extents pointers h = record {
  count = omega (arith, h.count, length-map (enumerate_from 0 pointers) (pointer_reset extents), length-enumerate_from 0 pointers);
  within =
      All-map (λ p. p ≤ g.page * g.pages) (pointer_reset extents) (enumerate_from 0 pointers)
      (λ k d below. subst (λ (p : ℕ × ℕ). pointer_reset extents p ≤ g.page * g.pages) (sym (get_or-enumerate_from 0 pointers k d (omega (arith, below, length-enumerate_from 0 pointers))))
      (small (list_any (λ e. e == (0 + k) + 1) extents) (get_or pointers k d.1) (h.within k d.1 (omega (arith, below, length-enumerate_from 0 pointers)))));
}
  where
    small : (b : Bool) (p : ℕ) → p ≤ g.page * g.pages → (if b then 0 else p) ≤ g.page * g.pages
    small true p h = omega arith
    small false p h = h
