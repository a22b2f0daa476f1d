-- What the writes of files come to.
use Rattle.std.proofs.Common.{◌≡◌, ℕ, ◌≤◌, inl, inr, List, [], ◌∷◌, Option, refl, sym, ap, ◌∙◌, subst, arith}
use Rattle.std.specs.Option.{option_map}
use Rattle.std.specs.FinMap.{insert}
use Rattle.io_edge.specs.Edge.{FileMap, HasRisen, KeepsOthers}
use Rattle.kdbsim_files.specs.declared.status.Status.{Status}
use Rattle.kdbsim_files.specs.declared.status.Status.TheVariants.{WriteFault}
use Rattle.kdbsim_files.specs.Files.{Kind}
use Rattle.kdbsim_files.proofs.Inputs.{HasRisen-from}
use Rattle.kdbsim_builds.specs.Stored.{Product, ShelfCall, IsStored}
use Rattle.kdbsim_builds.specs.Builds.{ExplainsBuild, IsSourceImage, IsElfPair, IsAssembled, IsConverted}

abbrev pub shelf_call : Option FileMap → Option FileMap → ℕ → ℕ → ShelfCall
shelf_call f0 f1 n0 n1 = record { files_before = f0; files_after = f1; count_before = n0; count_after = n1 }

-- the first write fails
pub lost_first : (f0 f1 f2 : Option FileMap) (name text : List ℕ) (later : List Product) (before n0 n1 n2 : ℕ) → f1 ≡ f0 → n1 ≡ n0 → before ≤ n0 → KeepsOthers name f1 f2 → HasRisen n1 n2
    → IsStored (shelf_call f0 f2 before n2) ((name, text) ∷ later) WriteFault
lost_first f0 f1 f2 name text later before n0 n1 n2 same count le others risen =
    inr (inl (
      refl,
      record {
        written = [];
        lost = (name, text);
        later = later;
        split = refl;
        others = subst (λ f. KeepsOthers name f f2) same others;
        count = HasRisen-from before n1 n2 (subst (λ n. before ≤ n) (sym count) le) risen;
      },
    ))

le_all : {a b c d : ℕ} → a ≤ b → c ≡ b → c ≤ d → a ≤ d
le_all x y z = omega (arith, x, y, z)

-- the second write fails
pub lost_second : (f0 f1 f2 f3 : Option FileMap) (name text second other : List ℕ) (before n0 n1 n2 n3 : ℕ) → f1 ≡ f0 → f2 ≡ option_map (λ fs. insert fs name text) f1 → n1 ≡ n0 → n1 ≤ n2 → before ≤ n0
    → KeepsOthers second f2 f3 → HasRisen n2 n3 → IsStored (shelf_call f0 f3 before n3) ((name, text) ∷ (second, other) ∷ []) WriteFault
lost_second f0 f1 f2 f3 name text second other before n0 n1 n2 n3 same put count more le others risen =
    inr (inl (
      refl,
      record {
        written = (name, text) ∷ [];
        lost = (second, other);
        later = [];
        split = refl;
        others = subst (λ f. KeepsOthers second f f3) (put ∙ ap (option_map (λ fs. insert fs name text)) same) others;
        count = HasRisen-from before n2 n3 (le_all le count more) risen;
      },
    ))

-- what was stored after the file was read
pub stored_by : (IsMade : List Product → Type 0) (kind : Kind) (name : List ℕ) (f0 f1 f2 : Option FileMap) (n0 n1 n2 : ℕ) (products : List Product) (status : Status) → f1 ≡ f0 → n0 ≤ n1 → IsMade products
    → ((before : ℕ) → before ≤ n1 → IsStored (shelf_call f1 f2 before n2) products status) → ExplainsBuild IsMade kind name (shelf_call f0 f2 n0 n2) status
stored_by IsMade kind name f0 f1 f2 n0 n1 n2 products status same le made stored = inl (products, made, subst (λ f. IsStored (shelf_call f f2 n0 n2) products status) same (stored n0 le))

pub assembled_so : (files : Option FileMap) (source image text items : List ℕ) → text ≡ items → IsSourceImage files source items → IsAssembled files source image ((image, text) ∷ [])
assembled_so files source image text items same of = record { text = text; of = subst (IsSourceImage files source) (sym same) of; products_are = refl }

pub converted_so : (files : Option FileMap) (executable image map_name text items map_bytes map_items : List ℕ) → text ≡ items → map_bytes ≡ map_items → IsElfPair files executable items map_items
    → IsConverted files executable image map_name ((image, text) ∷ (map_name, map_bytes) ∷ [])
converted_so files executable image map_name text items map_bytes map_items same map_same of = record {
  image_text = text;
  map_bytes = map_bytes;
  of = subst (λ t. IsElfPair files executable t map_bytes) (sym same) (subst (IsElfPair files executable items) (sym map_same) of);
  products_are = refl;
}
