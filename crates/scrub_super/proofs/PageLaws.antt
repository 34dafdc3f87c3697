-- A page of extent 0 holds one thing, so an image has one list of what they hold.
use Rattle.std.proofs.Common.{◌≡◌, ◌<◌, ◌+◌, ◌*◌, ◌/◌, ◌⊎◌, ℕ, List, Bool, true, false, IsTrue, length, take, get_or, slice_get, arith, refl, sym, subst, ◌∙◌, ap, inl, inr, Some, None, if◌then◌else◌, nat_lt}
use Rattle.std.specs.List.{list_any}
use Rattle.std.proofs.lemmas.Bool.{false≢true}
use Rattle.std.proofs.lemmas.Option.{same_Some, none-some, slice_get-get_or}
use Rattle.std.proofs.lemmas.List.{same_lists}
use Rattle.std.proofs.Math.Nat.{mul-div_cancel}
use Rattle.scrub_disk.specs.Image.{Image, image_byte}
use Rattle.scrub_disk.proofs.HeldBytes.{byte-unreadable}
use Rattle.scrub_super.specs.declared.kind.RecordKind.{RecordKind}
use Rattle.scrub_super.specs.declared.pages.Rank.{Rank}
use Rattle.scrub_super.specs.declared.pages.Rank.TheVariants.{Tie, Counts, Older}
use Rattle.scrub_super.specs.declared.pages.SuperblockPage.{SuperblockPage}
use Rattle.scrub_super.specs.declared.pages.SuperblockPage.TheVariants.{Lost, Record, Damaged, Stray, Held}
use Rattle.scrub_super.specs.Contents.{Contents}
use Rattle.scrub_super.specs.Record.{record_bytes}
use Rattle.scrub_super.specs.Chosen.{RecordStandsAt, newest_records}
use Rattle.scrub_super.specs.Pages.{AreHeldBytes, AreSuperblockPages, HasLooseLetters, HasStrayByte, IsHeldByte, IsRank, IsRecordless, IsSuperblockPage, is_odd, kind_of}
use Rattle.scrub_super.proofs.Fronts.{one_magic}
use Rattle.scrub_super.proofs.Laws.{one_list_of_records, one_record_on_page}
use Rattle.scrub_super.proofs.RecordParts.{some_bytes}

-- no byte of an unreadable page can be read
module _ (image : Image) (q : ℕ) (lost : image.page 0 q ≡ None) where
  no_first_byte : {x : ℕ} → image_byte image 0 (q * image.geometry.page) ≡ Some x → ⊥
  no_first_byte {x} there =
      let here : (q * image.geometry.page) / image.geometry.page ≡ q = mul-div_cancel q positive in
      none-some x (sym (byte-unreadable image 0 (q * image.geometry.page) (rw here lost)) ∙ there)
    where
      positive : 0 < image.geometry.page
      positive = omega (arith, image.geometry.page_least)

  lost_record : {c : Contents} → RecordStandsAt image q c → ⊥
  lost_record {c} s =
      let e : q * image.geometry.page + 0 ≡ q * image.geometry.page = omega arith in
      no_first_byte (rw e at (s.stands 0 (omega (arith, some_bytes image.geometry c))))

  lost_recordless : {bytes : List ℕ} → IsRecordless image q bytes → ⊥
  lost_recordless {bytes} u = none-some bytes (sym lost ∙ u.readable)

same_bytes : (image : Image) (q : ℕ) {xs ys : List ℕ} → image.page 0 q ≡ Some xs → image.page 0 q ≡ Some ys → xs ≡ ys
same_bytes image q x y = same_Some _ _ (sym x ∙ y)

-- a page on which a record begins can be read
pub readable_of : {image : Image} {q : ℕ} {bytes : List ℕ} {c : Contents} (readable : Bool) →
    image.page 0 q ≡ (if readable then Some bytes else None) → RecordStandsAt image q c → image.page 0 q ≡ Some bytes
readable_of true is s = is
readable_of {image} {q} false is s = absurd (lost_record image q is s)

-- a page has a stray byte or has none
one_stray : (image : Image) (q : ℕ) {xs ys : List ℕ} (s t : Bool) → xs ≡ ys → HasStrayByte image q xs s →
    HasStrayByte image q ys t → s ≡ t
one_stray image q true true e x y = refl
one_stray image q true false e x y = absurd (x (subst (AreHeldBytes image q) (sym e) y))
one_stray image q false true e x y = absurd (y (subst (AreHeldBytes image q) e x))
one_stray image q false false e x y = refl

-- how new a record is, by all records and its generation
abbrev rank_among : List (ℕ × Contents) → ℕ → Rank
rank_among rs n =
    if list_any (λ r. nat_lt n r.1.generation) rs then Older else if nat_lt 1 (length (newest_records rs)) then Tie else Counts

one_rank : {image : Image} {n m : ℕ} {a b : Rank} → n ≡ m → IsRank image n a → IsRank image m b → a ≡ b
one_rank {n = n} same x y =
    x.2
    ∙ ap (λ (rs : List (ℕ × Contents)). rank_among rs n) (one_list_of_records x.1 y.1)
    ∙ ap (rank_among y.0) same
    ∙ sym y.2

one_record_known : (image : Image) (q : ℕ) (j k : RecordKind) (n m d e : ℕ) (a b : Rank) (s t : Bool) →
    IsSuperblockPage image q (Record j n d a s) → IsSuperblockPage image q (Record k m e b t) →
    Record j n d a s ≡ Record k m e b t
one_record_known image q j k n m d e a b s t x y =
    let same : x.0 ≡ y.0 = one_record_on_page image q x.0 y.0 x.1 y.1 in
    let kinds : j ≡ k = x.2 ∙ ap kind_of same ∙ sym y.2 in
    let generations : n ≡ m = x.3 ∙ ap (λ c. c.generation) same ∙ sym y.3 in
    let ends : d ≡ e =
    x.4 ∙ ap (λ c. q * image.geometry.page + length (record_bytes image.geometry c)) same ∙ sym y.4 in
    let ranks : a ≡ b = one_rank generations x.5 y.5 in
    let strays : s ≡ t = one_stray image q s t (same_bytes image q x.6.1 y.6.1) x.6.2 y.6.2 in
    λ i. Record (kinds i) (generations i) (ends i) (ranks i) (strays i)

-- letters that a page begins with are loose or not
other_letters : {image : Image} {q : ℕ} {xs ys : List ℕ} (kind : RecordKind) → xs ≡ ys →
    HasLooseLetters image q xs kind → HasLooseLetters image q ys kind
other_letters {image} {q} kind e l = subst (λ zs. HasLooseLetters image q zs kind) e l

-- ---- what a page holds is one thing, by the first that applies

lost_alone : (image : Image) (q : ℕ) (b : SuperblockPage) → image.page 0 q ≡ None → IsSuperblockPage image q b →
    Lost ≡ b
lost_alone image q Lost x y = refl
lost_alone image q (Record k n d r t) x y = absurd (lost_record image q x y.1)
lost_alone image q (Damaged k) x y = absurd (lost_recordless image q x y.1)
lost_alone image q Stray x y = absurd (lost_recordless image q x y.1)
lost_alone image q Held x y = absurd (lost_recordless image q x y.1)

record_alone : (image : Image) (q : ℕ) (b : SuperblockPage) (j : RecordKind) (n d : ℕ) (a : Rank) (s : Bool) →
    IsSuperblockPage image q (Record j n d a s) → IsSuperblockPage image q b → Record j n d a s ≡ b
record_alone image q Lost j n d a s x y = absurd (lost_record image q y x.1)
record_alone image q (Record k m e r t) j n d a s x y = one_record_known image q j k n m d e a r s t x y
record_alone image q (Damaged k) j n d a s x y = absurd (y.1.no_record (x.0, x.1))
record_alone image q Stray j n d a s x y = absurd (y.1.no_record (x.0, x.1))
record_alone image q Held j n d a s x y = absurd (y.1.no_record (x.0, x.1))

damaged_alone : (image : Image) (q : ℕ) (b : SuperblockPage) (j : RecordKind) → IsSuperblockPage image q (Damaged j) →
    IsSuperblockPage image q b → Damaged j ≡ b
damaged_alone image q Lost j x y = absurd (lost_recordless image q y x.1)
damaged_alone image q (Record k m e r t) j x y = absurd (x.1.no_record (y.0, y.1))
damaged_alone image q (Damaged k) j x y =
    ap Damaged (one_magic j k (sym x.2.letters ∙ ap (take 4) (same_bytes image q x.1.readable y.1.readable) ∙ y.2.letters))
damaged_alone image q Stray j x y = absurd (y.2 j (other_letters j (same_bytes image q x.1.readable y.1.readable) x.2))
damaged_alone image q Held j x y = absurd (y.2 j (other_letters j (same_bytes image q x.1.readable y.1.readable) x.2))

stray_alone : (image : Image) (q : ℕ) (b : SuperblockPage) → IsSuperblockPage image q Stray →
    IsSuperblockPage image q b → Stray ≡ b
stray_alone image q Lost x y = absurd (lost_recordless image q y x.1)
stray_alone image q (Record k m e r t) x y = absurd (x.1.no_record (y.0, y.1))
stray_alone image q (Damaged k) x y = absurd (x.2 k (other_letters k (same_bytes image q y.1.readable x.1.readable) y.2))
stray_alone image q Stray x y = refl
stray_alone image q Held x y = absurd (x.3 (subst (AreHeldBytes image q) (same_bytes image q y.1.readable x.1.readable) y.3))

held_alone : (image : Image) (q : ℕ) (b : SuperblockPage) → IsSuperblockPage image q Held →
    IsSuperblockPage image q b → Held ≡ b
held_alone image q Lost x y = absurd (lost_recordless image q y x.1)
held_alone image q (Record k m e r t) x y = absurd (x.1.no_record (y.0, y.1))
held_alone image q (Damaged k) x y = absurd (x.2 k (other_letters k (same_bytes image q y.1.readable x.1.readable) y.2))
held_alone image q Stray x y = absurd (y.3 (subst (AreHeldBytes image q) (same_bytes image q x.1.readable y.1.readable) x.3))
held_alone image q Held x y = refl

pub one_superblock_page : (image : Image) (q : ℕ) (a b : SuperblockPage) → IsSuperblockPage image q a →
    IsSuperblockPage image q b → a ≡ b
one_superblock_page image q Lost b x y = lost_alone image q b x y
one_superblock_page image q (Record k n d r s) b x y = record_alone image q b k n d r s x y
one_superblock_page image q (Damaged k) b x y = damaged_alone image q b k x y
one_superblock_page image q Stray b x y = stray_alone image q b x y
one_superblock_page image q Held b x y = held_alone image q b x y

-- two lists of what the pages hold are the same
pub one_list_of_pages : (image : Image) (a b : List SuperblockPage) → AreSuperblockPages image a →
    AreSuperblockPages image b → a ≡ b
one_list_of_pages image a b x y =
    same_lists a b (x.count ∙ sym y.count)
    (λ k d hk. one_superblock_page image k (get_or a k d) (get_or b k d) (x.each k _ (slice_get-get_or a k d hk)) (y.each k _ (slice_get-get_or b k d (omega (arith, hk, x.count, y.count)))))

-- ---- no byte is overlooked

-- a byte of a page that isn't zero is held, or the page is damaged or stray
page_overlooks_none : (image : Image) (q k b : ℕ) (page : SuperblockPage) (bytes : List ℕ) → IsSuperblockPage image q page →
    image.page 0 q ≡ Some bytes → slice_get bytes k ≡ Some b → ¬ (b ≡ 0) →
    IsHeldByte image (q * image.geometry.page + k) ⊎ IsTrue (is_odd page)
page_overlooks_none image q k b Lost bytes x readable is nonzero = absurd (none-some bytes (sym x ∙ readable))
page_overlooks_none image q k b (Record j n d r true) bytes x readable is nonzero = inr refl
page_overlooks_none image q k b (Record j n d r false) bytes x readable is nonzero =
    inl (subst (AreHeldBytes image q) (same_bytes image q x.6.1 readable) x.6.2 k b is nonzero)
page_overlooks_none image q k b (Damaged j) bytes x readable is nonzero = inr refl
page_overlooks_none image q k b Stray bytes x readable is nonzero = inr refl
page_overlooks_none image q k b Held bytes x readable is nonzero =
    inl (subst (AreHeldBytes image q) (same_bytes image q x.1.readable readable) x.3 k b is nonzero)

-- A byte other than zero on a readable page is held by a valid record, or the page is damaged or stray.
pub none_overlooked : (image : Image) (pages : List SuperblockPage) (q k b : ℕ) (page : SuperblockPage) (bytes : List ℕ) →
    AreSuperblockPages image pages → slice_get pages q ≡ Some page → image.page 0 q ≡ Some bytes →
    slice_get bytes k ≡ Some b → ¬ (b ≡ 0) → IsHeldByte image (q * image.geometry.page + k) ⊎ IsTrue (is_odd page)
none_overlooked image pages q k b page bytes are there readable is nonzero =
    page_overlooks_none image q k b page bytes (are.each q page there) readable is nonzero

-- what a page is that is neither lost nor damaged nor stray
pub held_unless_odd : (image : Image) (q : ℕ) (page : SuperblockPage) (bytes : List ℕ) → IsSuperblockPage image q page →
    is_odd page ≡ false → image.page 0 q ≡ Some bytes → AreHeldBytes image q bytes
held_unless_odd image q page bytes x even readable k b is nonzero = elim (page_overlooks_none image q k b page bytes x readable is nonzero) [
  | inl held ↦ held
  | inr odd ↦ absurd (false≢true (sym even ∙ odd))
]
