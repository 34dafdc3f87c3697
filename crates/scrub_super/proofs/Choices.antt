-- The choice that follows from what was found in extent 0.
use Rattle.std.proofs.Common.{◌≡◌, ◌<◌, ◌≤◌, ℕ, List, [], false, arith, refl, sym, ◌∙◌, ap, Some, None, inl, inr, IsTrue, ◌↔◌}
use Rattle.std.proofs.lemmas.Bool.{cases_eq, false≢true}
use Rattle.scrub_disk.specs.Image.{Image}
use Rattle.scrub_super.specs.declared.choosing.Newest.{Newest}
use Rattle.scrub_super.specs.declared.choosing.RecordsSeen.{RecordsSeen}
use Rattle.scrub_super.specs.Contents.{Contents}
use Rattle.scrub_disk.specs.Image.{unreadable_pages}
use Rattle.scrub_super.specs.Chosen.{RecordStandsAt, IsChoice}
use Rattle.scrub_super.specs.Pages.{IsRank}
use Rattle.scrub_super.specs.declared.pages.Rank.{Rank}
use Rattle.scrub_super.specs.steps.ByConditions.{AreRecordPages, IsGreatest, IsRankByConditions, IsTie}
use Rattle.scrub_super.specs.steps.RecordsSeen.{StandsFrom, IsNewestFrom, AreSeenFrom}
use Rattle.scrub_super.proofs.NewestRecords.{from_conditions, rank_from_conditions, records_of_pages}
use Rattle.scrub_super.proofs.Laws.{one_record_on_page}

-- what was found are all pages with a record
pub pages_found : {image : Image} {f : RecordsSeen} → (found : AreSeenFrom (StandsFrom image) 0 f) → AreRecordPages image found.pages
pages_found found = record {
  rising = found.are.rising;
  exact = λ g. (
    (λ there. let x = (found.are.exact g).0 there in (x.1.1.0, x.1.1.1)),
    (λ x. (found.are.exact g).1 (omega arith, (x.0.generation, (x.0, x.1, refl)))),
  );
}

-- how new a record is, by those that were found
pub rank_found : {image : Image} {f : RecordsSeen} → AreSeenFrom (StandsFrom image) 0 f → (n : ℕ) (rank : Rank) →
    IsRankByConditions image n rank → IsRank image n rank
rank_found found n rank is = let rs = records_of_pages (pages_found found) in rank_from_conditions rs.1 n rank is

-- nothing was found
module _ {image : Image} {f : RecordsSeen} (found : AreSeenFrom (StandsFrom image) 0 f) (is : f.newest ≡ None) where
  -- If nothing was found, no page has a valid record.
  pub nothing_found : {g : ℕ} {c : Contents} → RecordStandsAt image g c → ⊥
  nothing_found {g} {c} s = absent g c.generation (omega arith) (c, s, refl)
    where
      absent : (q n : ℕ) → 0 ≤ q → StandsFrom image q n → ⊥
      absent = rw is at found.newest

  -- If nothing was found, the choice has no superblock, no record and no tie.
  pub choice_without : {bad : List ℕ} → bad ≡ unreadable_pages image 0 →
      IsChoice image (record { geometry = image.geometry; superblock = None; page = None; records = 0; tie = false; bad_pages = bad })
  choice_without hb = from_conditions (record {
    geometry = refl;
    chosen = λ g c s. nothing_found s;
    records = (
      [],
      record {
        rising = λ k hk. absurd (omega (arith, hk));
        exact = λ g. ((λ there. absurd (omega (arith, there.1))), (λ x. absurd (nothing_found x.1)));
      },
      refl,
    );
    tie = ((λ wrong. absurd (false≢true wrong)), (λ t. absurd (nothing_found t.stands)));
    bad_pages = hb;
  })

-- the newest that was found
module _ {image : Image} {f : RecordsSeen} {b : Newest} (found : AreSeenFrom (StandsFrom image) 0 f)
    (is : f.newest ≡ Some b) where
  newest : IsNewestFrom (StandsFrom image) 0 b
  newest = rw is at found.newest

  -- no record is newer
  pub greatest_found : {n : ℕ} → b.generation ≤ n → IsGreatest image n
  greatest_found low g d s = omega (arith, newest.greatest g d.generation (omega arith) (d, s, refl))

  -- A generation below that of the newest record isn't the greatest.
  pub newer_found : {n : ℕ} → n < b.generation → IsGreatest image n → ⊥
  newer_found older greatest =
      omega (arith, greatest b.page newest.there.0 newest.there.1, newest.there.2)

  -- a tie is found
  pub tie_found : IsTrue b.tie ↔ IsTie image
  tie_found = (tied, untied)
    where
      tied : IsTrue b.tie → IsTie image
      tied tie = let x = newest.tied.0 tie in record {
        one = b.page;
        other = x.0;
        apart = λ e. x.1 (sym e);
        contents = newest.there.0;
        contents_of_other = x.3.0;
        stands = newest.there.1;
        other_stands = x.3.1;
        same = x.3.2 ∙ sym newest.there.2;
        greatest = greatest_found (omega (arith, newest.there.2));
      }

      untied : IsTie image → IsTrue b.tie
      untied t =
          let top : t.contents.generation ≡ b.generation =
          omega (
            arith,
            newest.greatest t.one t.contents.generation (omega arith) (t.contents, t.stands, refl),
            t.greatest b.page newest.there.0 newest.there.1,
            newest.there.2,
          ) in
          elim (cases_eq t.one b.page) [
            | inl here ↦
                newest.tied.1 (
                  t.other,
                  (λ e. t.apart (here ∙ sym e)),
                  omega arith,
                  (t.contents_of_other, t.other_stands, t.same ∙ top),
                )
            | inr elsewhere ↦ newest.tied.1 (t.one, elsewhere, omega arith, (t.contents, t.stands, top))
          ]

  -- the choice by the record of these contents on its page
  pub choice_at : {c : Contents} {bad : List ℕ} → RecordStandsAt image b.page c → bad ≡ unreadable_pages image 0 →
      IsChoice image (record { geometry = image.geometry; superblock = Some c; page = Some b.page; records = f.records; tie = b.tie; bad_pages = bad })
  choice_at {c} stands hb = from_conditions (record {
    geometry = refl;
    chosen = record {
      stands = stands;
      greatest = greatest_found (omega (arith, generation));
      lowest = λ g d s same. newest.lowest g (omega arith) (d, s, same ∙ generation);
    };
    records = (found.pages, pages_found found, found.records);
    tie = tie_found;
    bad_pages = hb;
  })
    where
      generation : c.generation ≡ b.generation
      generation =
          ap (λ d. d.generation) (one_record_on_page image b.page c newest.there.0 stands newest.there.1) ∙ newest.there.2
