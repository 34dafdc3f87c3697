-- The pages that a list of bytes holds are whole. Here and not among the proofs, since page sources cite it.
use Rattle.std.proofs.Common.{◌≡◌, ◌<◌, ◌≤◌, ◌+◌, ◌-◌, ◌*◌, ℕ, List, Bool, true, false, cond, length, get_or, arith, sym, ◌∙◌, ap, Some, None, nat_eq}
use Rattle.std.specs.List.{between}
use Rattle.std.proofs.Math.Nat.{mul-le-mul_left}
use Rattle.std.proofs.lemmas.Nat.{row_fits}
use Rattle.std.proofs.lemmas.List.Edits.{length-between}
use Rattle.scrub_disk.specs.declared.geometry.Geometry.{Geometry}
use Rattle.scrub_disk.specs.Image.{HasWholePages}
use Rattle.scrub_disk.specs.BytesAndMarks.{held}
use Rattle.scrub_disk.specs.Memory.{image_of}
use Rattle.scrub_disk.specs.declared.memory.MemDisk.{MemDisk}
use Rattle.scrub_disk.specs.OneExtent.{alone}

-- lemma: page q of extent e is among all pages, and its bytes are among all bytes, for P bytes a page, N pages an
-- extent and E extents
pub page_room : (P N E e q : ℕ) → e < E → q < N → (e * N + q < N * E) × ((e * N + q) * P + P ≤ P * N * E)
page_room P N E e q he hq =
    let r : e * N + N ≤ E * N = row_fits e N E N he (omega arith) in
    let below : e * N + q + 1 ≤ N * E = omega (arith, r, hq) in
    let t : P * (e * N + q + 1) ≤ P * (N * E) = mul-le-mul_left P below in
    (omega (arith, below), omega (arith, t))

-- lemma: each page of the image that bytes of that length hold is whole
pub held_whole : (g : Geometry) (bytes : List ℕ) (unreadable : List Bool) → length bytes ≡ g.page * g.pages * g.extents → HasWholePages (held g bytes unreadable)
held_whole g bytes unreadable l e q page he hq is =
    by_mark (get_or unreadable (e * g.pages + q) false) ((e * g.pages + q) * g.page) (omega (arith, (page_room g.page g.pages g.extents e q he hq).1, l)) is
  where
    by_mark : (b : Bool) (from : ℕ) → from + g.page ≤ length bytes → cond b None (Some (between from (from + g.page) bytes)) ≡ Some page → length page ≡ g.page
    by_mark true from fits e = let none : None ≡ Some page = e in absurd (let no_such : ⊥ = cc in no_such)
    by_mark false from fits e =
        let same : between from (from + g.page) bytes ≡ page = cc in
        ap length (sym same) ∙ length-between bytes from (from + g.page) fits ∙ (let z : from + g.page - from ≡ g.page = omega arith in z)

-- lemma: each page of a disk in memory is whole
pub memory_pages : (d : MemDisk) → HasWholePages (image_of d)
memory_pages d = held_whole d.geometry d.bytes.items d.unreadable.items d.whole

-- lemma: page q of one extent is among its bytes, for P bytes a page and N pages
pub extent_room : (P N q : ℕ) → q < N → q * P + P ≤ P * N
extent_room P N q hq =
    let next : q + 1 ≤ N = omega (arith, hq) in
    let t : P * (q + 1) ≤ P * N = mul-le-mul_left P next in
    omega (arith, t)

-- lemma: each page of the one extent that bytes of that length hold is whole
pub alone_whole : (g : Geometry) (extent : ℕ) (bytes : List ℕ) (unreadable : List Bool) → length bytes ≡ g.page * g.pages → HasWholePages (alone g extent bytes unreadable)
alone_whole g extent bytes unreadable l e q page he hq is =
    own (nat_eq e extent) (get_or unreadable q false) (q * g.page) (omega (arith, extent_room g.page g.pages q hq, l)) is
  where
    own : (here b : Bool) (from : ℕ) → from + g.page ≤ length bytes → cond here (cond b None (Some (between from (from + g.page) bytes))) None ≡ Some page → length page ≡ g.page
    own false b from fits e = let none : None ≡ Some page = e in absurd (let no_such : ⊥ = cc in no_such)
    own true true from fits e = let none : None ≡ Some page = e in absurd (let no_such : ⊥ = cc in no_such)
    own true false from fits e =
        let same : between from (from + g.page) bytes ≡ page = cc in
        ap length (sym same) ∙ length-between bytes from (from + g.page) fits ∙ (let z : from + g.page - from ≡ g.page = omega arith in z)
