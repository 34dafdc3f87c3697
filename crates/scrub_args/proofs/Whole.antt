-- Arguments without a fault name a command of the program, with all that it needs.
use Rattle.std.proofs.Common.{◌≡◌, inl, inr, Bool, true, false, List, [], ◌∷◌, ◌++◌, Option, None, Some, refl, sym, codes}
use Rattle.std.specs.Prelude.{find, if◌then◌else◌, ◌||◌, option_map}
use Rattle.std.specs.Option.{option_map_or}
use Rattle.std.specs.Str.{bytes_eq}
use Rattle.std.proofs.lemmas.Bool.{false≢true, or_cases}
use Rattle.std.proofs.lemmas.Slice.Eq.{bytes_eq-Decides}
use Rattle.clap.specs.Words.{Row, Rule, Text, fault_of, subcommand_of, built}
use Rattle.clap.specs.Simple.{Shape, built_leaf, entered, inherited, label_of, names_of, new_shape, rows_at}
use Rattle.clap.specs.Walk.{answers_to, nothing_held, walk, walk_from}
use Rattle.clap.specs.Faults.{entered_fault, level_fault, walk_fault}
use Rattle.clap.proofs.OnLiterals.{clap_on_literals}
use Rattle.clap_walk.specs.Rows.{EachRow, IsSound}
use Rattle.clap_walk.specs.Rules.{AreClean}
use Rattle.clap_walk.proofs.Walks.{IsNoHelp, parts, walk_stops}
use Rattle.clap_walk.proofs.Given.{IsRequiredRule, has_flag, has_number, has_text, may_have_number, rows_sound}
use Rattle.clap_walk.proofs.UsualByTest.{are_usual, usual_by_test}
use Rattle.scrub_args.specs.CommandLine.{accept_rule, compare_shape, id_rule, image_rules, images_rules, items_shape, last_rule, manifest_shape, option, partial_rule, reclaimable_shape, required, reset_rule, run_rule, shard_shape, shards_shape, shardscrub_app, sizes_shape, summary_shape, superblocks_shape, workers_rule}
use Rattle.scrub_args.specs.steps.Parsed.{HasCompare, HasDated, HasImage, HasImageName, HasItems, HasManifest, HasScan, HasShard, HasShards, IsWholeCommand, IsWholeParse}
use Rattle.scrub_args.proofs.LongNumbers.{may_have_long}
use Rattle.scrub_args.proofs.Numbers.{has_numbers}

-- ---- what each command needs

-- a command as `clap` builds it
abbrev leaf : Shape → Shape
leaf shape = built_leaf (inherited (record shardscrub_app.top { is_built = true }) shape)

-- what is found in arguments without a fault for the command has all this
abbrev Has : (List Row → Type 0) → Shape → Type 0
Has P s = (args : List Text) → AreClean s args → P (rows_at s args).1

-- the rows of a command whose rules pass the test
sound : (s : Shape) → are_usual s.rules ≡ true → Has (EachRow (IsSound s.rules)) s
sound s usual args clean = (rows_sound s (usual_by_test s.rules usual) args clean).0

-- a command on an image: whether the sizes have to be given, its own options, and the arguments after these
abbrev imaged : Text → Bool → List Rule → List Rule → Shape
imaged name sized own images = leaf (record (new_shape name) {
  rules =
      (record (option (codes "page")) { required = sized } ∷ record (option (codes "pages")) { required = sized }
      ∷ record (option (codes "extents")) { required = sized } ∷ []) ++ own ++ images;
})

-- it has the name of an image, and a number of 32 bits for each size that is given
module _ (name : Text) (sized : Bool) (own images : List Rule) where
  image_whole : are_usual (imaged name sized own images).rules ≡ true →
      IsRequiredRule (imaged name sized own images).rules (codes "image") → Has HasImage (imaged name sized own images)
  unfolding clap_on_literals
  image_whole usual image args clean =
      let s = imaged name sized own images in
      let are = usual_by_test s.rules usual in
      record {
        page = may_have_number s are args clean 4294967295 (codes "page") (_, refl, refl, refl);
        pages = may_have_number s are args clean 4294967295 (codes "pages") (_, refl, refl, refl);
        extents = may_have_number s are args clean 4294967295 (codes "extents") (_, refl, refl, refl);
        image = has_text s are args clean (codes "image") image;
      }

-- a command on the whole disk
abbrev scanned : Text → Bool → List Rule → List Rule → Shape
scanned name sized own images = imaged name sized (workers_rule ∷ own) images

-- it has this, and at most 64 workers
module _ (name : Text) (sized : Bool) (own images : List Rule) where
  scan_whole : are_usual (scanned name sized own images).rules ≡ true →
      IsRequiredRule (scanned name sized own images).rules (codes "image") → Has HasScan (scanned name sized own images)
  unfolding clap_on_literals
  scan_whole usual image args clean =
      let s = scanned name sized own images in
      record {
        disk = image_whole name sized (workers_rule ∷ own) images usual image args clean;
        workers = may_have_number s (usual_by_test s.rules usual) args clean 64 (codes "workers") (_, refl, refl, refl);
      }

-- a command on the whole disk without options of its own
plain_whole : (name : Text) (sized : Bool) → Has HasScan (scanned name sized [] image_rules)
unfolding clap_on_literals
plain_whole name sized = scan_whole name sized [] image_rules refl (_, refl, refl)

manifest_whole : Has HasManifest (leaf manifest_shape)
unfolding clap_on_literals
manifest_whole args clean = record {
  scan = scan_whole (codes "manifest") true (reset_rule ∷ run_rule ∷ []) image_rules refl (_, refl, refl) args clean;
  resets = has_numbers (leaf manifest_shape).rules _ (sound (leaf manifest_shape) refl args clean) (codes "reset") _ refl refl refl;
}

compare_whole : Has HasCompare (leaf compare_shape)
unfolding clap_on_literals
compare_whole args clean = record {
  before = record {
    scan = scan_whole (codes "compare") true (reset_rule ∷ []) images_rules refl (_, refl, refl) args clean;
    resets = has_numbers (leaf compare_shape).rules _ (sound (leaf compare_shape) refl args clean) (codes "reset") _ refl refl refl;
  };
  after = has_text (leaf compare_shape) (usual_by_test (leaf compare_shape).rules refl) args clean (codes "after") (_, refl, refl);
}

summary_whole : Has HasDated (leaf summary_shape)
unfolding clap_on_literals
summary_whole args clean = record {
  scan = scan_whole (codes "summary") false (last_rule ∷ []) image_rules refl (_, refl, refl) args clean;
  last = may_have_long (leaf summary_shape).rules _ (sound (leaf summary_shape) refl args clean) (codes "last") _ refl refl refl;
}

reclaimable_whole : Has HasDated (leaf reclaimable_shape)
unfolding clap_on_literals
reclaimable_whole args clean = record {
  scan = scan_whole (codes "reclaimable") true (accept_rule ∷ last_rule ∷ []) image_rules refl (_, refl, refl) args clean;
  last = may_have_long (leaf reclaimable_shape).rules _ (sound (leaf reclaimable_shape) refl args clean) (codes "last") _ refl refl refl;
}

shard_whole : Has HasShard (leaf shard_shape)
unfolding clap_on_literals
shard_whole args clean = record {
  scan = scan_whole (codes "shard") false (id_rule ∷ run_rule ∷ []) image_rules refl (_, refl, refl) args clean;
  id = has_text (leaf shard_shape) (usual_by_test (leaf shard_shape).rules refl) args clean (codes "id") (_, refl, refl);
}

shards_whole : Has HasShards (leaf shards_shape)
unfolding clap_on_literals
shards_whole args clean = record {
  scan = scan_whole (codes "shards") false (partial_rule ∷ run_rule ∷ []) image_rules refl (_, refl, refl) args clean;
  partial = has_flag (leaf shards_shape) (usual_by_test (leaf shards_shape).rules refl) args clean (codes "partial") (_, refl, refl, refl);
}

superblocks_whole : Has HasImage (leaf superblocks_shape)
unfolding clap_on_literals
superblocks_whole = image_whole (codes "superblocks") false [] image_rules refl (_, refl, refl)

sizes_whole : Has HasImageName (leaf sizes_shape)
unfolding clap_on_literals
sizes_whole args clean =
    has_text (leaf sizes_shape) (usual_by_test (leaf sizes_shape).rules refl) args clean (codes "image") (_, refl, refl)

items_whole : Has HasItems (leaf items_shape)
unfolding clap_on_literals
items_whole args clean =
    let s = leaf items_shape in
    let usual = usual_by_test s.rules refl in
    record {
      disk = image_whole (codes "items") false (required (option (codes "extent")) ∷ option (codes "pointer") ∷ []) image_rules refl (_, refl, refl) args clean;
      extent = has_number s usual args clean 4294967295 (codes "extent") (_, refl, refl, refl) refl;
      pointer = may_have_number s usual args clean 4294967295 (codes "pointer") (_, refl, refl, refl);
    }

-- ---- the command that the arguments name

-- P holds of each of some commands
abbrev EachShape : (Shape → Type 0) → List Shape → Type 0
EachShape P [] = Unit {0}
EachShape P (s ∷ more) = P s × EachShape P more

module _ (word : Text) (args : List Text) where
  -- the command, if the word names it, has what it needs
  abbrev IsWhole : Shape → Type 0
  IsWhole s = answers_to word (label_of s) ≡ true → AreClean s args → IsWholeCommand s.name (rows_at s args).1

  named_whole : (shapes : List Shape) → EachShape IsWhole shapes →
      option_map_or (λ s. level_fault s [] nothing_held args false []) (find (λ s. answers_to word (label_of s)) shapes) [] ≡ [] →
      IsWholeParse (option_map (λ s. rows_at s args) (find (λ s. answers_to word (label_of s)) shapes))
  named_whole [] each clean = tt
  named_whole (s ∷ more) each clean = go (answers_to word (label_of s)) refl (named_whole more each.1) clean
    where
      rest : Option Shape
      rest = find (λ s. answers_to word (label_of s)) more

      go : (b : Bool) → answers_to word (label_of s) ≡ b →
          (option_map_or (λ s. level_fault s [] nothing_held args false []) rest [] ≡ [] → IsWholeParse (option_map (λ s. rows_at s args) rest)) →
          option_map_or (λ s. level_fault s [] nothing_held args false []) (if b then Some s else rest) [] ≡ [] →
          IsWholeParse (option_map (λ s. rows_at s args) (if b then Some s else rest))
      go true is later clean = each.0 is clean
      go false is later clean = later clean

stop_whole : (stop : Option (Text × List Text)) → IsNoHelp stop → entered_fault (built shardscrub_app) stop ≡ [] →
    IsWholeParse (entered (built shardscrub_app) stop)
unfolding clap_on_literals
stop_whole None other clean = tt
stop_whole (Some p) other clean =
    named_whole p.0 p.1 (built shardscrub_app).subs
    ((λ is. summary_whole p.1), ((λ is. plain_whole (codes "scan") false p.1), ((λ is. shard_whole p.1), ((λ is. shards_whole p.1), ((λ is. plain_whole (codes "index") true p.1), ((λ is. plain_whole (codes "locators") false p.1), ((λ is. manifest_whole p.1), ((λ is. plain_whole (codes "runs") true p.1), ((λ is. reclaimable_whole p.1), ((λ is. compare_whole p.1), ((λ is. superblocks_whole p.1), ((λ is. sizes_whole p.1), ((λ is. items_whole p.1), ((λ is clean. tt), ((λ is clean. absurd (no_help is)), tt)))))))))))))))
    clean
  where
    no_help : (bytes_eq (codes "help") p.0 || false) ≡ true → ⊥
    no_help is = elim (or_cases (bytes_eq (codes "help") p.0) false is) [
      | inl same ↦ cc ((bytes_eq-Decides p.0 (codes "help")).1 (sym ((bytes_eq-Decides (codes "help") p.0).0 same)), other)
      | inr none ↦ absurd (false≢true none)
    ]

-- If arguments without a fault name a command, it is one of the program with all that it needs.
pub whole : (args : List Text) → fault_of shardscrub_app args ≡ [] → IsWholeParse (subcommand_of shardscrub_app args)
unfolding clap_on_literals
whole args clean =
    let app = built shardscrub_app in
    let stop = (walk app.top.rules (names_of app) nothing_held args).stopped in
    let walks = parts (walk_fault app.top (names_of app) (walk_from nothing_held) args) _ clean in
    let below = parts (entered_fault app stop) _ walks.1 in
    stop_whole stop (walk_stops app.top refl (names_of app) (walk_from nothing_held) args tt walks.0) below.0
