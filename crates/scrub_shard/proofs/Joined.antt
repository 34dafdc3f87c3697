-- The payloads for the locators of a shard, one directly after another, by the copies that were found and by those that they
-- have.
use Rattle.std.proofs.Common.{◌≡◌, ◌<◌, ◌+◌, ◌++◌, ◌∷◌, [], ℕ, List, length, get_or, take, refl, sym, ◌∙◌, ap, subst}
use Rattle.std.specs.List.{All, AllZip, flat_map}
use Rattle.std.proofs.lemmas.Grind.{flat_map-append}
use Rattle.std.proofs.lemmas.List.{append-nil}
use Rattle.std.proofs.lemmas.List.Elements.{All-head, All-tail}
use Rattle.list_facts.proofs.Zips.{AllZip-take_more}
use Rattle.scrub_disk.specs.Image.{Image}
use Rattle.scrub_scan.specs.declared.standing.Standing.{Standing}
use Rattle.scrub_scan.specs.Scanned.{Scanned}
use Rattle.scrub_check.specs.declared.statuses.checked.Checked.{Checked}
use Rattle.scrub_loose.specs.Copies.{CopiesValue, copies_by}
use Rattle.scrub_loose.specs.Loose.{copies_for}
use Rattle.scrub_shard.specs.Shard.{AreBytesFor, IsPayloadFor, IsPayloadOf}
use Rattle.scrub_shard.specs.steps.Payloads.{AreBytesBy, IsPayloadBy}

module _ (image : Image) (found : CopiesValue) (own : List Checked) where
  -- one more
  pub one_more : (i : ℕ) (one : Checked) (bytes more payload : List ℕ) → i < length own → AreBytesBy image found (take i own) bytes →
      one ≡ get_or own i one → IsPayloadBy image found one payload → more ≡ bytes ++ payload →
      AreBytesBy image found (take (i + 1) own) more
  one_more i one bytes more payload below so_far is next grown = record {
    payloads = so_far.payloads ++ payload ∷ [];
    each =
        AllZip-take_more (IsPayloadBy image found) own so_far.payloads (so_far.payloads ++ payload ∷ []) i one payload below
        so_far.each (subst (λ (c : Checked). IsPayloadBy image found c payload) is next) refl;
    joined =
        grown
        ∙ ap (λ (b : List ℕ). b ++ payload) so_far.joined
        ∙ ap (λ (b : List ℕ). flat_map (λ (p : List ℕ). p) so_far.payloads ++ b) (sym (append-nil payload))
        ∙ sym (flat_map-append (λ (p : List ℕ). p) so_far.payloads (payload ∷ []));
  }

-- the copies that were found are those that the locator has
abbrev pub HasItsCopies : List Scanned → List Standing → CopiesValue → Checked → Type 0
HasItsCopies all loose found c = copies_by found c ≡ copies_for all loose c

module _ (image : Image) (all : List Scanned) (loose : List Standing) (found : CopiesValue) where
  zipped : (own : List Checked) (payloads : List (List ℕ)) → All (HasItsCopies all loose found) own →
      AllZip (IsPayloadBy image found) own payloads → AllZip (IsPayloadFor image all loose) own payloads
  zipped [] [] same each = tt
  zipped [] (p ∷ ps) same each = each
  zipped (c ∷ cs) [] same each = each
  zipped (c ∷ cs) (p ∷ ps) same each = (
    subst (λ (ss : List Standing). IsPayloadOf image ss c p) (All-head (HasItsCopies all loose found) c cs same) each.0,
    zipped cs ps (All-tail (HasItsCopies all loose found) c cs same) each.1,
  )

  -- so the bytes by them are those of the locators
  pub bytes_are : (own : List Checked) (bytes : List ℕ) → All (HasItsCopies all loose found) own → AreBytesBy image found own bytes →
      AreBytesFor image all loose own bytes
  bytes_are own bytes same by = record { payloads = by.payloads; each = zipped own by.payloads same by.each; joined = by.joined }
