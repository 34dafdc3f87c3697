-- Two lines of shards' locators that begin alike are of locators with one length and one digest.
use Rattle.std.proofs.Common.{◌≡◌, ◌<◌, ◌^◌, ◌++◌, ◌∷◌, [], ℕ, List, get_or, sym, ◌∙◌, ap}
use Rattle.std.proofs.lemmas.Fmt.{decimal_injective}
use Rattle.hex.specs.Hex.{encode_lower}
use Rattle.sha2.specs.Sha256.{sha256}
use Rattle.scrub_scan.specs.Scanned.{Scanned}
use Rattle.scrub_check.specs.declared.statuses.checked.Checked.{Checked}
use Rattle.scrub_check.specs.Checked.{is_sound}
use Rattle.scrub_check.specs.ChunkForms.{form_at}
use Rattle.scrub_listings.specs.Manifest.{numbered_text}
use Rattle.scrub_listings.proofs.ManifestTexts.{kind_word, numbered_are_words, numbered_is, place_is, place_words, places_are_words, words_behind}
use Rattle.scrub_listings.proofs.Words.{words_back, words_of}
use Rattle.scrub_compare.specs.Compare.{place_or_form}
use Rattle.scrub_compare.proofs.Digests.{same_digest}

module _ (n : ℕ) (c d : Checked) where
  abbrev words_by : List Scanned → Checked → List (List ℕ)
  words_by all e = place_words (is_sound e.status) (form_at all e.locator) e.locator

  words_are : (all : List Scanned) (e : Checked) → words_of (numbered_text n e ++ place_or_form all e) ≡ kind_word e.owner ∷ words_behind n e (words_by all e)
  words_are all e =
      ap (λ (u : List ℕ). words_of (numbered_text n e ++ u)) (place_is (is_sound e.status) (form_at all e.locator) e.locator)
      ∙ ap words_of (numbered_is n e (words_by all e))
      ∙ words_back (kind_word e.owner) (words_behind n e (words_by all e))
      (numbered_are_words n e (words_by all e) (places_are_words (is_sound e.status) (form_at all e.locator) e.locator))

  -- Lines of one number that are the same up to the last word have one length, and one text of a digest.
  pub same_words : (all others : List Scanned) → c.locator.length < 2 ^ 64 → d.locator.length < 2 ^ 64 →
      numbered_text n c ++ place_or_form all c ≡ numbered_text n d ++ place_or_form others d →
      (c.locator.length ≡ d.locator.length) × (encode_lower c.locator.digest ≡ encode_lower d.locator.digest)
  same_words all others small other e =
      let words = sym (words_are all c) ∙ ap words_of e ∙ words_are others d in (
        decimal_injective c.locator.length d.locator.length small other (ap (λ (ws : List (List ℕ)). get_or ws 3 []) words),
        ap (λ (ws : List (List ℕ)). get_or ws 4 []) words,
      )

  -- If their digests are those of some payloads, they are the same.
  pub same_digests : (a b : List ℕ) → c.locator.digest ≡ sha256 a → d.locator.digest ≡ sha256 b →
      encode_lower c.locator.digest ≡ encode_lower d.locator.digest → c.locator.digest ≡ d.locator.digest
  same_digests a b is other e =
      is ∙ same_digest a b (sym (ap encode_lower is) ∙ e ∙ ap encode_lower other) ∙ sym other
