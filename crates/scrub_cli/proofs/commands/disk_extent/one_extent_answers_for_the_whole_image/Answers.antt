-- The one extent is that of a whole image, and the answer rests on that extent alone.
use Rattle.std.proofs.Common.{subst, sym}
use Rattle.scrub_scan.specs.Extent.{Extent}
use Rattle.scrub_cli.specs.Items.{given_pointer}
use Rattle.scrub_cli.specs.Lines.{IsListing}
use Rattle.scrub_cli.proofs.SameSuperblocks.{same_superblock_pages}
use Rattle.scrub_cli.proofs.WholeImages.{completed, same_bytes, same_extent, with_others}
use Rattle.scrub_cli.proofs.commands.disk_extent.one_extent_answers_for_the_whole_image.Goals as goal

pub returns-clause-items : goal.returns-clause-items
returns-clause-items c known maps args text outcome a =
    let whole = completed args.extent known maps args.image a.geometry a.image a.loaded in
    record {
      geometry = a.geometry;
      places = a.places;
      image = with_others args.extent a.image whole.0;
      loaded = whole.1;
      listed =
          subst (λ (extent : Extent). IsListing extent text outcome)
          (same_bytes args.extent a.image whole.0 (given_pointer args a.geometry)) a.listed;
    }

pub returns-clause-superblocks : goal.returns-clause-superblocks
returns-clause-superblocks c known maps args text outcome a =
    let whole = completed 0 known maps args a.disk.geometry a.image a.disk.loaded in
    let image = with_others 0 a.image whole.0 in
    let listing = a.answered.listing in
    record {
      image = image;
      disk = record { geometry = a.disk.geometry; sizes = a.disk.sizes; loaded = whole.1 };
      answered = record {
        clean = a.answered.clean;
        listing = record {
          pages = listing.pages;
          are = same_superblock_pages image.geometry a.image.page image.page (sym (same_extent 0 a.image whole.0)) listing.are;
          text_is = listing.text_is;
          verdict = listing.verdict;
        };
        ended = a.answered.ended;
      };
    }
