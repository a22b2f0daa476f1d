-- What a shelf tells after writes.
use Rattle.std.proofs.Common.{◌≡◌, ◌≢◌, ℕ, Bool, cond, true, false, List, [], Some, refl, sym, ap, ◌∙◌, subst, unwrap_or}
use Rattle.std.specs.Str.{bytes_eq}
use Rattle.std.specs.Cmp.Lexicographic.{nat_list_cmp_total}
use Rattle.std.specs.FinMap.{get, insert, get-insert}
use Rattle.std.proofs.lemmas.Map.Text.{is_eq-slice_cmp}
use Rattle.std.proofs.lemmas.Slice.Eq.{bytes_eq-Decides}
use Rattle.img_text.specs.Reading.{image_of}
use Rattle.sym_map.specs.Reading.{symbols_of}
use Rattle.io_edge.specs.Edge.{FileMap}
use Rattle.kdbsim_builds.specs.Stored.{Product, with_products}
use Rattle.kdbsim_builds.specs.Builds.{IsAssembled, IsConverted}
use Rattle.kdbsim_builds.specs.Laws.{IsAssembledTold, IsConvertedTold}

got : (files : FileMap) (name bytes asked : List ℕ) → get (insert files name bytes) asked ≡ cond (bytes_eq asked name) (Some bytes) (get files asked)
got files name bytes asked = get-insert nat_list_cmp_total files name bytes asked ∙ ap (λ b. cond b (Some bytes) (get files asked)) (is_eq-slice_cmp asked name)

got_it : (files : FileMap) (name bytes : List ℕ) → get (insert files name bytes) name ≡ Some bytes
got_it files name bytes = got files name bytes name ∙ ap (λ b. cond b (Some bytes) (get files name)) ((bytes_eq-Decides name name).1 refl)

got_other : (files : FileMap) (name bytes asked : List ℕ) → asked ≢ name → get (insert files name bytes) asked ≡ get files asked
got_other files name bytes asked differs = got files name bytes asked ∙ by (bytes_eq asked name) refl
  where
    by : (b : Bool) → bytes_eq asked name ≡ b → cond b (Some bytes) (get files asked) ≡ get files asked
    by true e = absurd (differs ((bytes_eq-Decides asked name).0 e))
    by false e = refl

pub assembled_told : (files : FileMap) (source image : List ℕ) (products : List Product) → IsAssembled (Some files) source image products → IsAssembledTold files source image (with_products (Some files) products)
assembled_told files source image products h =
    subst (λ ps. IsAssembledTold files source image (with_products (Some files) ps)) (sym h.products_are) (record {
      told = insert files image h.text;
      after_is = refl;
      value = h.of.value;
      read = h.of.read;
      reads = ap (λ o. image_of (unwrap_or o [])) (got_it files image h.text) ∙ h.of.reads;
      others = λ name differs. got_other files image h.text name differs;
    })

pub converted_told : (files : FileMap) (executable image map_name : List ℕ) (products : List Product) → map_name ≢ image → IsConverted (Some files) executable image map_name products
    → IsConvertedTold files executable image map_name (with_products (Some files) products)
converted_told files executable image map_name products apart h =
    let one : FileMap = insert files image h.image_text in
    subst (λ ps. IsConvertedTold files executable image map_name (with_products (Some files) ps)) (sym h.products_are) (record {
      told = insert one map_name h.map_bytes;
      after_is = refl;
      value = h.of.value;
      read = h.of.read;
      reads_image = ap (λ o. image_of (unwrap_or o [])) (got_other one map_name h.map_bytes image (λ e. apart (sym e)) ∙ got_it files image h.image_text) ∙ h.of.reads_image;
      reads_map = ap (λ o. symbols_of (unwrap_or o [])) (got_it one map_name h.map_bytes) ∙ h.of.reads_map;
      others = λ name differs from. got_other one map_name h.map_bytes name from ∙ got_other files image h.image_text name differs;
    })
