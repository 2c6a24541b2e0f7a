mod PartLemmas
mod NestLemmas
mod ShapeLemmas
mod ApartLemmas
mod CoverLemmas
