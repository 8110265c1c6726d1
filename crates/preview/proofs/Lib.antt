pub mod PreviewLaws
pub mod SizeLaws
