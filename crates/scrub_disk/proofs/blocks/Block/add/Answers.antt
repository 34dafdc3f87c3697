-- The page is stored after the others.
use Rattle.std.proofs.Common.{rules, ◌≡◌, ◌++◌, ◌∷◌, [], Some, true, length, refl}
use Rattle.scrub_disk.proofs.StoredPages.{stored_page}
use Rattle.scrub_disk.proofs.blocks.Block.add.Goals as goal

pub returns-clause-text : goal.returns-clause-text
returns-clause-text c =
    let kept : c.args.is_kept ≡ true = search rules in
    let bytes : c.extend_from_slice.new.self.items ≡ c.args.self.now.bytes.items ++ c.args.page.now = search rules in
    let slots : c.push-2.new.self.items ≡ c.args.self.now.slots.items ++ Some c.args.stored ∷ [] = search rules in
    rw kept
    (stored_page (length c.args.page.now) c.args.stored c.args.self.now
    (record { bytes = c.extend_from_slice.new.self; slots = c.push-2.new.self }) c.args.page.now refl c.requires.stored
    c.requires.pages bytes slots).0
