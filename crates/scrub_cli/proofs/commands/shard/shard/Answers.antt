-- Each way out of `shard`, in the order of the code.
use Rattle.std.proofs.Common.{◌∙◌, List, ℕ, Option, Vec, Global, ap, inl, inr, refl}
use Rattle.std.specs.Prelude.{option_map}
use Rattle.std.proofs.lemmas.Option.{IfSome_then}
use Rattle.std.proofs.lemmas.Result.{err_from_is_err_and}
use Rattle.scrub_disk.specs.Parted.{image_of}
use Rattle.scrub_frame.specs.declared.locator.Locator.{Locator}
use Rattle.scrub_listings.specs.declared.remarks.SuperblockRemark.{SuperblockRemark}
use Rattle.scrub_cli.specs.Remarks.{shard_remark_lines}
use Rattle.scrub_cli.specs.Shard.{IsNamed, IsShardRead}
use Rattle.scrub_cli.proofs.GivenRunsAnswers.{located_shown}
use Rattle.scrub_cli.proofs.ShardAnswers.{written_with}
use Rattle.scrub_cli.proofs.commands.shard.shard.Goals as goal

pub read_shard-requires-clause-few : goal.read_shard-requires-clause-few
read_shard-requires-clause-few g c κs within =
    IfSome_then c.as_deref-given.result
    (located_shown c.in_ok-disk.given c.as_deref-given.result c.as_deref-given.ensures.value c.in_ok-disk.ensures.located)
    (λ runs are. are.count)

pub read_shard-requires-clause-located : goal.read_shard-requires-clause-located
read_shard-requires-clause-located g c κs within =
    IfSome_then c.as_deref-given.result
    (located_shown c.in_ok-disk.given c.as_deref-given.result c.as_deref-given.ensures.value c.in_ok-disk.ensures.located)
    (λ runs are. are.each)

-- no sizes were found
pub returns-in_err-geometry : goal.returns-in_err-geometry
returns-in_err-geometry g c =
    let p = err_from_is_err_and c.from_residual.result c.from_residual.ensures.1 in
    rw (p.1, p.2) (inr (inl c.in_err-geometry.ensures.geometry))

-- the argument is no identifier
pub returns-in_default : goal.returns-in_default
returns-in_default g c =
    inr (inr (c.in_ok-geometry.geometry, c.in_ok-geometry.ensures.geometry, inl (refl, c.in_default.ensures)))

-- no disk was loaded
pub returns-in_err-disk : goal.returns-in_err-disk
returns-in_err-disk g c =
    let args = c.args.args.now in
    let known = g.I.Images.known c.args.images.now args.scan.image.name.now in
    let maps = g.I.Images.known_map c.args.images.now in
    let sizes = c.in_ok-geometry.geometry in
    let named : IsNamed known maps args sizes c.in-Some.id = record { sizes = c.in_ok-geometry.ensures.geometry; id_is = c.in-Some.ensures } in
    let p = err_from_is_err_and c.from_residual-in_err-disk.result c.from_residual-in_err-disk.ensures.1 in
    rw (p.1, p.2)
    (inr (inr (
      sizes,
      c.in_ok-geometry.ensures.geometry,
      inr (
        c.in-Some.id,
        named,
        inl (rw (c.geometry_of.ensures.same_images, c.geometry_of.ensures.same_maps, c.deref.ensures.value) at c.in_err-disk.ensures.disk),
      ),
    )))

-- there are no bytes of the shard
pub returns-in_err-bytes_of : goal.returns-in_err-bytes_of
returns-in_err-bytes_of g c =
    let args = c.args.args.now in
    let known = g.I.Images.known c.args.images.now args.scan.image.name.now in
    let maps = g.I.Images.known_map c.args.images.now in
    let given : Option (List Locator) = option_map (λ (v : Vec Locator Global). v.items) c.in_ok-disk.given in
    let sizes = c.in_ok-geometry.geometry in
    let named : IsNamed known maps args sizes c.in-Some.id = record { sizes = c.in_ok-geometry.ensures.geometry; id_is = c.in-Some.ensures } in
    let is_read : IsShardRead known maps args sizes c.in-Some.id (image_of c.in_ok-disk.disk) given c.in_ok-found.found.answer = record {
      loaded = rw (c.geometry_of.ensures.same_images, c.geometry_of.ensures.same_maps, c.deref.ensures.value) at c.in_ok-disk.ensures.disk;
      answered = rw c.as_deref-given.ensures.value at c.in_ok-found.ensures.shard;
    } in
    let p = err_from_is_err_and c.from_residual-in_err-bytes_of.result c.from_residual-in_err-bytes_of.ensures.1 in
    rw (p.1, p.2)
    (inr (inr (
      sizes,
      c.in_ok-geometry.ensures.geometry,
      inr (
        c.in-Some.id,
        named,
        inr (record {
          image = image_of c.in_ok-disk.disk;
          given = given;
          answer = c.in_ok-found.found.answer;
          is_read = is_read;
          why = c.in_err-bytes_of.ensures;
        }),
      ),
    )))

-- the bytes of the shard are written
pub returns : goal.returns
returns g c = (
  image_of c.in_ok-disk.disk,
  option_map (λ (v : Vec Locator Global). v.items) c.in_ok-disk.given,
  record {
    geometry = c.in_ok-geometry.geometry;
    id = c.in-Some.id;
    named = record { sizes = c.in_ok-geometry.ensures.geometry; id_is = c.in-Some.ensures };
    answer = c.in_ok-found.found.answer;
    is_read = record {
      loaded = rw (c.geometry_of.ensures.same_images, c.geometry_of.ensures.same_maps, c.deref.ensures.value) at c.in_ok-disk.ensures.disk;
      answered = rw c.as_deref-given.ensures.value at c.in_ok-found.ensures.shard;
    };
    remarks = c.in_ok-found.found.remarks.items;
    are_remarks = rw c.as_deref-given.ensures.value at c.in_ok-found.ensures.remarks;
    written =
        written_with c.in_ok-found.found.answer _ _ _ _
        (ap (λ (v : Vec ℕ Global). v.items) c.into_bytes.ensures.value
        ∙ c.in_ok-lines.ensures
        ∙ ap (λ (rs : List SuperblockRemark). shard_remark_lines rs c.in_ok-found.found.answer) c.deref-2.ensures.value)
        c.in_ok-bytes_of.ensures;
  },
  rw c.as_deref-given.ensures.value at c.in_ok-found.ensures.takings,
)
