-- An image of which one extent was loaded, completed to one that was loaded whole: a page of another extent is unreadable if it is
-- named, cut or lost by the map, and else has the raw bytes of its place.
use Rattle.std.proofs.Common.{◌⊎◌, ◌≡◌, ◌<◌, ◌≤◌, ◌+◌, ◌-◌, ◌*◌, ℕ, Bool, List, length, get_or, arith, refl, sym, ◌∙◌, ap, inl, inr, Option, Some, None, IfSome, Contains}
use Rattle.std.specs.List.{between}
use Rattle.std.proofs.Math.Path.{ap₂, fun_ext}
use Rattle.std.proofs.lemmas.Option.{none-some, same_Some, slice_get-get_or}
use Rattle.std.proofs.lemmas.List.Edits.{length-between, get_or-between}
use Rattle.std.proofs.lemmas.List.Elements.{Contains-get_or}
use Rattle.list_facts.proofs.Decisions.{Decided, decided_both, decided_contains, decided_less, decided_like, decided_not, decided_number, some_below}
use Rattle.scrub_disk.specs.declared.geometry.Geometry.{Geometry}
use Rattle.scrub_disk.specs.Image.{Image, disk_bytes}
use Rattle.scrub_disk.specs.BytesAndMarks.{page_number}
use Rattle.scrub_disk.specs.Raw.{HoldsKnown, HoldsRaw, IsCut, IsLoadedIn, IsLoadedWith, IsPageAt, every_extent, raw_place}
use Rattle.scrub_disk.proofs.LostPages.{uncut}
use Rattle.scrub_map.specs.declared.block.MapBlock.{MapBlock}
use Rattle.scrub_map.specs.Rescued.{IsCovered, IsLostBlock}
use Rattle.scrub_map.proofs.LostDecided.{covered_decided}
use Rattle.scrub_scan.specs.Extent.{extent_of}
use Rattle.scrub_args.specs.declared.args.ImageArgs.{ImageArgs}
use Rattle.scrub_cli.specs.DiskImage.{IsLoadedDisk, IsLoadedDiskIn}
use Rattle.scrub_cli.specs.KnownFiles.{KnownMaps, KnownRaw}
use Rattle.scrub_cli.specs.Rescue.{LosesByMap}
use Rattle.scrub_cli.proofs.SameSuperblocks.{Pages}

-- the first page if the extents are the same, or else the second
abbrev by_extent : {e x : ℕ} → Decided (e ≡ x) → (own other : Option (List ℕ)) → Option (List ℕ)
by_extent (inl same) own other = own
by_extent (inr apart) own other = other

-- this image in extent x, and these pages in the other extents
abbrev pub with_others : ℕ → Image → Pages → Image
with_others x image others = record { geometry = image.geometry; page = λ e q. by_extent (decided_number e x) (image.page e q) (others e q) }

module _ (x : ℕ) (image : Image) (others : Pages) where
  -- what holds of the image's pages in extent x, and of the other pages elsewhere, holds of each page
  of_both : (e q : ℕ) (Q : Option (List ℕ) → Type 0) → (e ≡ x → Q (image.page e q)) → ((e ≡ x → ⊥) → Q (others e q)) →
      Q ((with_others x image others).page e q)
  of_both e q Q own other = by (decided_number e x)
    where
      by : (d : Decided (e ≡ x)) → Q (by_extent d (image.page e q) (others e q))
      by (inl same) = own same
      by (inr apart) = other apart

  -- extent x is as it is in the image
  pub same_extent : (with_others x image others).page x ≡ image.page x
  same_extent = fun_ext (λ q. of_both x q (λ page. page ≡ image.page x q) (λ same. refl) (λ apart. absurd (apart refl)))

  -- so it is the same extent under each write pointer
  pub same_bytes : (p : ℕ) → extent_of image x p ≡ extent_of (with_others x image others) x p
  same_bytes p = ap (λ (pages : ℕ → Option (List ℕ)). extent_of (record { geometry = image.geometry; page = λ e. pages }) x p) (sym same_extent)

-- ---- the other extents

-- a page that a load may give: whole or unreadable, and unreadable if it is named; if the raw bytes are known, it has those of its
-- place, and is unreadable only if it is named or cut
record IsPageLoaded (raw : Option (List ℕ)) (g : Geometry) (named : List (ℕ × ℕ)) (e q : ℕ) (page : Option (List ℕ)) : Type 0 where
  whole : (bytes : List ℕ) → page ≡ Some bytes → length bytes ≡ g.page
  unreadable : Contains named (e, q) → page ≡ None
  at : IfSome raw (λ bytes. IfSome page (IsPageAt bytes (raw_place g e q) g.page))
  only : IfSome raw (λ bytes. page ≡ None → Contains named (e, q) ⊎ IsCut bytes g e q)

named_decided : (named : List (ℕ × ℕ)) (e q : ℕ) → Decided (Contains named (e, q))
named_decided named e q = decided_contains same named (e, q)
  where
    same : (a b : ℕ × ℕ) → Decided (a ≡ b)
    same a b =
        decided_like (decided_both (decided_number a.0 b.0) (decided_number a.1 b.1))
        (λ h. ap₂ (λ (e q : ℕ). let at : ℕ × ℕ = (e, q) in at) h.0 h.1) (λ h. (ap (λ at. at.0) h, ap (λ at. at.1) h))

-- There is one: the raw bytes of its place, unless they aren't known, or the page is named or cut.
loaded_page : (raw : Option (List ℕ)) (g : Geometry) (named : List (ℕ × ℕ)) (e q : ℕ) →
    (page : Option (List ℕ)) × IsPageLoaded raw g named e q page
loaded_page None g named e q = (None, record { whole = λ page is. absurd (none-some page is); unreadable = λ _. refl; at = tt; only = tt })
loaded_page (Some bytes) g named e q = by (named_decided named e q) (decided_less (length bytes) (raw_place g e q + g.page))
  where
    lost : Contains named (e, q) ⊎ IsCut bytes g e q → (page : Option (List ℕ)) × IsPageLoaded (Some bytes) g named e q page
    lost why = (None, record { whole = λ page is. absurd (none-some page is); unreadable = λ _. refl; at = tt; only = λ _. why })

    by : Decided (Contains named (e, q)) → Decided (IsCut bytes g e q) →
        (page : Option (List ℕ)) × IsPageLoaded (Some bytes) g named e q page
    by (inl there) cut = lost (inl there)
    by free (inl cut) = lost (inr cut)
    by (inr free) (inr not_cut) =
        let page = between (raw_place g e q) (raw_place g e q + g.page) bytes in
        let fits : raw_place g e q + g.page ≤ length bytes = omega (arith, not_cut) in
        let l : length page ≡ g.page =
        length-between bytes (raw_place g e q) (raw_place g e q + g.page) fits ∙ (let z : raw_place g e q + g.page - raw_place g e q ≡ g.page = omega arith in z) in (
          Some page,
          record {
            whole = λ same is. ap length (sym (same_Some page same is)) ∙ l;
            unreadable = λ there. absurd (free there);
            at = record {
              whole = l;
              stands = λ k hk.
                  slice_get-get_or bytes (raw_place g e q + k) 0 (omega (arith, hk, l, fits))
                  ∙ ap Some (sym (get_or-between bytes (raw_place g e q) (raw_place g e q + g.page) k 0 (omega (arith, hk, l))));
            };
            only = λ none. absurd (none-some page (sym none));
          },
        )

-- these pages, for a whole disk
abbrev others_of : Option (List ℕ) → Geometry → List (ℕ × ℕ) → Pages
others_of raw g named e q = (loaded_page raw g named e q).0

module _ (x : ℕ) (raw : Option (List ℕ)) (fails : ℕ → ℕ → Bool) (failures : ℕ) (named : List (ℕ × ℕ)) (before : Image) where
  abbrev g : Geometry
  g = before.geometry

  abbrev others : Pages
  others = others_of raw g named

  abbrev whole : Image
  whole = with_others x before others

  -- the whole image is loaded if the one with extent x is
  known_whole : (r : Option (List ℕ)) → ((e q : ℕ) → IsPageLoaded r g named e q (others e q)) →
      IfSome r (λ bytes. HoldsKnown (λ e. e ≡ x) bytes fails failures g named before) →
      IfSome r (λ bytes. HoldsKnown every_extent bytes fails failures g named whole)
  known_whole None pages h = tt
  known_whole (Some bytes) pages h = record {
    pages = at;
    lost = record {
      cut = λ e q _ he hq cut. uncut bytes (raw_place g e q) g.page (whole.page e q) (omega (arith, g.page_least)) cut (at e q tt he hq);
      failed = h.lost.failed;
      few = h.lost.few;
      each = h.lost.each;
      only = λ e q _ he hq. of_both x before others e q
          (λ page. page ≡ None → Contains named (e, q) ⊎ (IsCut bytes g e q ⊎ Contains h.lost.failed (page_number g e q)))
          (λ own. h.lost.only e q own he hq)
          (λ _ none. elim ((pages e q).only none) [ inl there ↦ inl there | inr cut ↦ inr (inl cut) ]);
    };
    not_too_long = h.not_too_long;
  }
    where
      at : HoldsRaw every_extent bytes whole
      at e q _ he hq = of_both x before others e q (λ page. IfSome page (IsPageAt bytes (raw_place g e q) g.page)) (λ own. h.pages e q own he hq) (λ _. (pages e q).at)

  loaded_whole : IsLoadedIn (λ e. e ≡ x) raw fails failures g named before → IsLoadedWith raw fails failures g named whole
  loaded_whole l = record {
    geometry = refl;
    whole = λ e q bytes he hq. of_both x before others e q (λ page. page ≡ Some bytes → length bytes ≡ g.page)
        (λ _. l.whole e q bytes he hq) (λ _. (loaded_page raw g named e q).1.whole bytes);
    unreadable = λ k d hk _. let at = get_or named k d in
        of_both x before others at.0 at.1 (λ page. page ≡ None) (l.unreadable k d hk)
        (λ _. (loaded_page raw g named at.0 at.1).1.unreadable (Contains-get_or named k d hk));
    known = known_whole raw (λ e q. (loaded_page raw g named e q).1) l.known;
  }

-- ---- pages that are lost by a map

-- what a map leaves of a page: nothing if it is lost, and the page if it isn't
left_of : (blocks : List MapBlock) (size end n : ℕ) (page : Option (List ℕ)) →
    (left : Option (List ℕ)) × (IsLostBlock blocks size end n → left ≡ None) × ((IsLostBlock blocks size end n → ⊥) → left ≡ page)
left_of blocks size end n page = elim (some_below (λ k. (n * size + k < end) × (IsCovered blocks (n * size + k) → ⊥)) lacks size) [
  | inl l ↦
      let lost : IsLostBlock blocks size end n =
      record { place = n * size + l.0; low = omega arith; high = omega (arith, l.1); before = l.2.0; lost = l.2.1 } in
      (None, (λ _. refl), (λ kept. absurd (kept lost)))
  | inr none ↦
      let kept : IsLostBlock blocks size end n → ⊥ =
      λ l. let is : n * size + (l.place - n * size) ≡ l.place = omega (arith, l.low) in
      none (l.place - n * size) (omega (arith, l.low, l.high)) (rw is (l.before, l.lost)) in
      (page, (λ lost. absurd (kept lost)), (λ _. refl))
]
  where
    lacks : (k : ℕ) → Decided ((n * size + k < end) × (IsCovered blocks (n * size + k) → ⊥))
    lacks k = decided_both (decided_less (n * size + k) end) (decided_not (covered_decided blocks (n * size + k)))

-- a map that takes pages from an image takes those of other extents, too
loses_by_map : (x : ℕ) (before image : Image) (others : Pages) (blocks : Option (List MapBlock)) → LosesByMap blocks before image →
    (left : Pages) × LosesByMap blocks (with_others x before others) (with_others x image left)
loses_by_map x before image others None same = (others, ap (λ i. with_others x i others) same)
loses_by_map x before image others (Some blocks) h =
    let left = λ (e q : ℕ). left_of blocks before.geometry.page (disk_bytes before.geometry) (page_number before.geometry e q) (others e q) in (
      λ e q. (left e q).0,
      record {
        geometry = h.geometry;
        lost = λ e q he hq is.
            of_both x image (λ e q. (left e q).0) e q (λ page. page ≡ None) (λ _. h.lost e q he hq is) (λ _. (left e q).1 is);
        kept = λ e q he hq is_not. ap₂ (by_extent (decided_number e x)) (h.kept e q he hq is_not) ((left e q).2 is_not);
      },
    )

-- ---- the whole image

-- an image of which extent x was loaded from a raw image is, in that extent, one that was loaded whole
pub completed : (x : ℕ) (known : KnownRaw) (maps : KnownMaps) (args : ImageArgs) (g : Geometry) (image : Image) →
    IsLoadedDiskIn (λ e. e ≡ x) known maps args g image → (others : Pages) × IsLoadedDisk known maps args g (with_others x image others)
completed x known maps args g image l =
    let sizes : l.before.geometry ≡ g = l.loaded.geometry in
    let others : Pages = others_of known.bytes l.before.geometry l.unreadable in
    let left = loses_by_map x l.before image others l.blocks l.rescued in (
      left.0,
      record {
        unreadable = l.unreadable;
        named = l.named;
        blocks = l.blocks;
        mapped = l.mapped;
        before = with_others x l.before others;
        loaded = rw (← sizes)
            (loaded_whole x known.bytes known.fails known.most_failures l.unreadable l.before (rw (← sizes) at l.loaded));
        rescued = left.1;
        sizes = l.sizes;
      },
    )
