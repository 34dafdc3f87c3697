-- Which shard owns which names.
use Rattle.std.proofs.Common.{◌∙◌, ◌∷◌, ◌≡◌, [], ap, arith, false, List, sym, true}
use Rattle.std.specs.List.{All, flat_map}
use Rattle.std.specs.Ordering.{is_eq, ordering_reverse}
use Rattle.std.proofs.lemmas.List.Elements.{All-append, All-head, All-map, All-tail}
use Rattle.std.proofs.lemmas.Map.Text.{is_eq-slice_cmp}
use Rattle.scrub_frame.specs.declared.locator.Locator.{Locator}
use Rattle.scrub_run.specs.Entry.{IsBelow}
use Rattle.scrub_run.specs.declared.shard_id.ShardId.{ShardId}
use Rattle.scrub_merge.proofs.Identifiers.{id_cmp_total, itself}
use Rattle.scrub_merge.specs.Binding.{BindingValue}
use Rattle.scrub_check.specs.Checked.{is_owned_by}
use Rattle.scrub_check.specs.Named.{named_by_shard}
use Rattle.scrub_check.specs.declared.named.Named.{Named}
use Rattle.scrub_check.specs.declared.named.Owner.{Owner}
use Rattle.scrub_check.specs.declared.named.Owner.TheVariants.{Shard}

-- a shard owns what is named for it
pub owned_by_itself : (id : ShardId) → is_owned_by id (Shard id) ≡ true
owned_by_itself id = sym (is_eq-slice_cmp id.0 id.0) ∙ itself id

-- an identifier below another isn't the other
pub not_owned_by_above : (a b : ShardId) → IsBelow a b → is_owned_by b (Shard a) ≡ false
not_owned_by_above a b below = sym (is_eq-slice_cmp a.0 b.0) ∙ ap is_eq below

-- nor the other way round
pub not_owned_by_below : (a b : ShardId) → IsBelow a b → is_owned_by a (Shard b) ≡ false
not_owned_by_below a b below =
    sym (is_eq-slice_cmp b.0 a.0) ∙ ap is_eq (id_cmp_total.antisymm b a ∙ ap ordering_reverse below)

-- what holds of a shard holds of the owner of each name that is made for it
pub All-named_by_shard : (K : Owner → Type 0) (b : BindingValue) → K (Shard b.id) → All (λ (n : Named). K n.owner) (named_by_shard b)
All-named_by_shard K b k =
    All-map (λ (n : Named). K n.owner) (λ (l : Locator). record { owner = Shard b.id; locator = l }) b.locators
    (λ i d below. k)

-- and so for several shards
pub All-named_by_shards : (K : Owner → Type 0) (bs : List BindingValue) → All (λ (b : BindingValue). K (Shard b.id)) bs →
    All (λ (n : Named). K n.owner) (flat_map named_by_shard bs)
All-named_by_shards K [] all = λ i d below. absurd (omega (arith, below))
All-named_by_shards K (b ∷ bs) all =
    All-append (λ (n : Named). K n.owner) (named_by_shard b) (flat_map named_by_shard bs)
    (All-named_by_shard K b (All-head (λ (v : BindingValue). K (Shard v.id)) b bs all))
    (All-named_by_shards K bs (All-tail (λ (v : BindingValue). K (Shard v.id)) b bs all))
