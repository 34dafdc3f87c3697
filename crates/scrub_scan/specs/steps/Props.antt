-- The findings of an extent hold in only one way.
use Rattle.std.proofs.Common.{◌≡◌, ◌+◌, ℕ, List, [], ◌∷◌, length, ap, subst}
use Rattle.std.proofs.Props.{props}
use Rattle.sha2.specs.Sha256.{sha256}
use Rattle.scrub_disk.specs.Image.{Image, AreBytesAt}
use Rattle.scrub_frame.specs.declared.form.Form.{Form}
use Rattle.scrub_frame.specs.Frame.{magic, frame_overhead}
use Rattle.scrub_scan.specs.declared.item.Item.{Item}
use Rattle.scrub_scan.specs.declared.item.Item.TheVariants.{Chunk, Pad, Torn, Noise, Lost}
use Rattle.scrub_scan.specs.declared.findings.Findings.{Findings}
use Rattle.scrub_scan.specs.Extent.{Extent, FrameAt}
use Rattle.scrub_scan.specs.Item.{stop_of, IsItem, Fits}
use Rattle.scrub_scan.specs.Tiling.{Joins, IsTiling}
use Rattle.scrub_scan.specs.Findings.{IsFindings}
use Rattle.scrub_scan.specs.steps.OneFrame.{one_frame_at, one_magic_at}

-- lemma: two pairs are one if their parts are
unique_pair : {A : Type 0} (P : A → Type 0) → ((a : A) → IsProp (P a)) → ((a b : A) → P a → P b → a ≡ b) → IsProp ((a : A) × P a)
unique_pair {A} P each one (a, p) (b, q) =
    let go : (b' : A) → a ≡ b' → (q' : P b') → Path ((z : A) × P z) (a, p) (b', q') = λ b' e. subst (λ (z : A). (q' : P z) → Path ((y : A) × P y) (a, p) (z, q')) e (λ q'. ap (λ r. let w : (y : A) × P y = (a, r) in w) (each a p q')) in
    go b (one a b p q) q

-- lemma: that a chunk is the item at its start holds in only one way
Chunk-prop : (x : Extent) (f : Form) (p stop : ℕ) (u : List ℕ) (n : ℕ) (digest : List ℕ) → IsProp (Fits x (Chunk f p stop u n digest))
Chunk-prop x f p stop u n digest h k =
    let Rest : List ℕ → Type 0 = λ b. FrameAt x p f u b × (stop ≡ p + length b + frame_overhead f) × (n ≡ length b) × (digest ≡ sha256 b) in
    let one : IsProp ((b : List ℕ) × Rest b) = unique_pair Rest (λ b. hlevel props) (λ b c v w. (one_frame_at x p f u b f u c v.0 w.0).2) in
    ap (λ (z : (b : List ℕ) × Rest b). let w : Fits x (Chunk f p stop u n digest) = (z.0, z.1.0, z.1.1, z.1.2, z.1.3) in w) (one (h.0, (h.1, h.2, h.3, h.4)) (k.0, (k.1, k.2, k.3, k.4)))

-- lemma: `HasMagic` holds in only one way
Magic-prop : (x : Extent) (p : ℕ) → IsProp ((f : Form) × AreBytesAt x.byte p (magic f))
Magic-prop x p = unique_pair (λ f. AreBytesAt x.byte p (magic f)) (λ f. hlevel props) (λ f g h k. one_magic_at x.byte p f g h k)

-- lemma: `Fits` holds in only one way
Fits-prop : (x : Extent) (i : Item) → IsProp (Fits x i)
Fits-prop x (Chunk f p stop u n digest) = Chunk-prop x f p stop u n digest
Fits-prop x (Lost p stop) = hlevel props
Fits-prop x (Pad p stop) = hlevel props
Fits-prop x (Torn p stop) = hlevel (Magic-prop, props)
Fits-prop x (Noise p stop) = hlevel props

-- lemma: `IsItem` holds in only one way
IsItem-prop : (x : Extent) (i : Item) → IsProp (IsItem x i)
IsItem-prop x i = hlevel (Fits-prop, props)

-- lemma: `Joins` holds in only one way
Joins-prop : (a w : ℕ) (items : List Item) → IsProp (Joins a w items)
Joins-prop a w [] = hlevel props
Joins-prop a w (item ∷ items) = hlevel (Joins-prop (stop_of item) w items, props)

-- lemma: `IsTiling` holds in only one way
IsTiling-prop : (x : Extent) (items : List Item) → IsProp (IsTiling x items)
IsTiling-prop x items = hlevel (Joins-prop, IsItem-prop, props)

-- lemma: findings hold in only one way, as a type with this invariant requires
pub IsFindings-prop : (image : Image) (e w : ℕ) (found : Findings) → IsProp (IsFindings image e w found)
IsFindings-prop image e w found = hlevel (IsTiling-prop, props)
