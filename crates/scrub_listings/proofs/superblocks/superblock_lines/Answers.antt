-- One more page, and at the end all.
use Rattle.std.proofs.Common.{◌≡◌, ◌<◌, ◌+◌, ◌++◌, ◌∷◌, [], ◌∙◌, ℕ, List, length, take, get_or, ap, arith, sym, Vec, Global}
use Rattle.std.specs.List.{enumerate_from, flat_map}
use Rattle.std.proofs.lemmas.List.{append-nil, take_all, take_more}
use Rattle.std.proofs.lemmas.List.FromFn.{get_or-enumerate_from, length-enumerate_from}
use Rattle.std.proofs.lemmas.Grind.{flat_map-append}
use Rattle.scrub_super.specs.declared.pages.SuperblockPage.{SuperblockPage}
use Rattle.scrub_super.specs.declared.pages.SuperblockPage.TheVariants.{Lost}
use Rattle.scrub_listings.specs.Superblocks.{superblock_line}
use Rattle.scrub_listings.proofs.superblocks.superblock_lines.Goals as goal

-- the lines of some pages
abbrev lines : List (ℕ × SuperblockPage) → List ℕ
lines = flat_map (λ x. superblock_line x.0 x.1)

line_more : (pages : List SuperblockPage) (i : ℕ) (d : SuperblockPage) → i < length pages →
    lines (take i (enumerate_from 0 pages)) ++ superblock_line i (get_or pages i d) ≡ lines (take (i + 1) (enumerate_from 0 pages))
line_more pages i d here =
    sym (ap lines (take_more (enumerate_from 0 pages) i (0, d) (omega (arith, here, length-enumerate_from 0 pages))
    ∙ ap (λ y. take i (enumerate_from 0 pages) ++ y ∷ []) (get_or-enumerate_from 0 pages i (0, d) here))
    ∙ flat_map-append (λ x. superblock_line x.0 x.1) (take i (enumerate_from 0 pages)) ((0 + i, get_or pages i d) ∷ [])
    ∙ ap (λ t. lines (take i (enumerate_from 0 pages)) ++ t) (append-nil (superblock_line (0 + i) (get_or pages i d)) ∙ ap (λ n. superblock_line n (get_or pages i d)) (let e : 0 + i ≡ i = omega arith in e)))

pub loop-page-preserved : goal.loop-page-preserved
loop-page-preserved c =
    let more = line_more c.args.pages.now c.loop-page.page Lost (omega (arith, c.loop-page-test.true)) in
    c.in_ok-append_line.ensures ∙ ap (λ t. t ++ superblock_line c.loop-page.page (get_or c.args.pages.now c.loop-page.page Lost)) c.loop-page.invariant ∙ more

pub returns : goal.returns
returns c =
    ap (λ (v : Vec ℕ Global). v.items) c.into_bytes.ensures.value ∙ c.loop-page.invariant
    ∙ ap lines (take_all c.loop-page.page (enumerate_from 0 c.args.pages.now) (omega (arith, c.loop-page-test.false, length-enumerate_from 0 c.args.pages.now)))
