-- The disk of `demo`, from what is put on it.
use Rattle.std.proofs.Common.{◌≡◌, ℕ, List, [], ◌∷◌, None, subst, sym, ap, ◌∙◌, codes}
use Rattle.scrub_disk.specs.declared.geometry.Geometry.{Geometry}
use Rattle.scrub_disk.specs.Faults.{HasSizes}
use Rattle.scrub_disk.specs.Image.{Image}
use Rattle.scrub_disk.specs.Memory.{IsBlank, Puts}
use Rattle.scrub_frame.specs.declared.locator.Locator.{Locator}
use Rattle.scrub_frame.specs.declared.form.Form.TheVariants.{Plain}
use Rattle.scrub_frame.specs.Frame.{frame_of}
use Rattle.scrub_run.specs.Run.{run_bytes}
use Rattle.scrub_super.specs.Record.{record_bytes}
use Rattle.scrub_cli.specs.Demo.{demo_pointers, demo_run, demo_shard, demo_superblock, located, ones, twos, IsDemoDisk}

-- A blank disk on which the demo's chunk, run and superblock were put is the demo's disk.
pub demo_made : (blank with_chunk with_run image : Image) (g : Geometry)
    (u v abc payload chunk run superblock : List ℕ) (l m : Locator) →
    IsBlank blank g → HasSizes g 64 4 3 → u ≡ ones → v ≡ twos → abc ≡ codes "abc" →
    chunk ≡ frame_of Plain u abc → l ≡ located 1 u abc → payload ≡ run_bytes (record { id = demo_shard; locators = l ∷ [] } ∷ []) →
    run ≡ frame_of Plain v payload → m ≡ located 2 v payload →
    superblock ≡ record_bytes g (record { generation = 1; pointers = demo_pointers; retired = None; runs = m ∷ [] }) →
    Puts blank with_chunk 1 0 chunk → Puts with_chunk with_run 2 0 run → Puts with_run image 0 0 superblock → IsDemoDisk image
demo_made blank with_chunk with_run image g u v abc payload chunk run superblock l m zero sizes hu hv habc hc hl hp hr hm hs
    put_chunk put_run put_superblock = record {
      blank = blank;
      sizes = subst (λ (x : Geometry). HasSizes x 64 4 3) (sym zero.geometry) sizes;
      zeros = subst (λ (x : Geometry). IsBlank blank x) (sym zero.geometry) zero;
      with_chunk = with_chunk;
      chunk =
          subst (λ (b : List ℕ). Puts blank with_chunk 1 0 b) (hc ∙ ap (λ x. frame_of Plain x abc) hu ∙ ap (frame_of Plain ones) habc)
          put_chunk;
      with_run = with_run;
      run =
          subst (λ (b : List ℕ). Puts with_chunk with_run 2 0 b)
          (hr ∙ ap (λ x. frame_of Plain x payload) hv ∙ ap (frame_of Plain twos) run_is) put_run;
      superblock = subst (λ (b : List ℕ). Puts with_run image 0 0 b) record_is put_superblock;
    }
  where
    chunk_is : l ≡ located 1 ones (codes "abc")
    chunk_is = hl ∙ ap (λ x. located 1 x abc) hu ∙ ap (located 1 ones) habc

    run_is : payload ≡ demo_run
    run_is = hp ∙ ap (λ (x : Locator). run_bytes (record { id = demo_shard; locators = x ∷ [] } ∷ [])) chunk_is

    named : m ≡ located 2 twos demo_run
    named = hm ∙ ap (λ x. located 2 x payload) hv ∙ ap (located 2 twos) run_is

    record_is : superblock ≡ record_bytes blank.geometry demo_superblock
    record_is =
        hs
        ∙ ap (λ (x : Locator). record_bytes g (record { generation = 1; pointers = demo_pointers; retired = None; runs = x ∷ [] })) named
        ∙ ap (λ (x : Geometry). record_bytes x demo_superblock) (sym zero.geometry)
